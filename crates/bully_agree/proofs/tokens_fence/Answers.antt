use Rattle.bully_agree.proofs.FenceLemmas.{tokens_fence_lem}
use Rattle.bully_agree.proofs.tokens_fence.Goals as goal

pub returns : goal.returns
returns c = tokens_fence_lem
