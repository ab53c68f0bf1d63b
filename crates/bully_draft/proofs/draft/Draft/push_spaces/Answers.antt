use Rattle.bully_draft.proofs.DraftLemmas.{one-space}
use Rattle.bully_draft.proofs.draft.Draft.push_spaces.Goals as goal

pub loop-preserved : goal.loop-preserved
loop-preserved c = one-space c.loop.counter c.loop.invariant c.push_str.ensures
