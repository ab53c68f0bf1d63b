use Rattle.bully_agree.proofs.FenceLemmas.{plans_alone_lem}
use Rattle.bully_agree.proofs.plans_alone.Goals as goal

pub returns : goal.returns
returns c = plans_alone_lem
