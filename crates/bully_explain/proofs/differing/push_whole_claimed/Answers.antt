use Rattle.bully_explain.proofs.DifferingLemmas.{whole-as}
use Rattle.bully_draft.proofs.DraftLemmas.{appends_then}
use Rattle.bully_explain.proofs.differing.push_whole_claimed.Goals as goal

pub returns : goal.returns
returns c =
    whole-as c.args.vector.now.vector c.args.whole.now c.claim.result c.halter.result c.halter-2.result c.up.result.now c.up-2.result.now _ _ c.claim.ensures c.halter.ensures c.halter-2.ensures
    c.up.ensures c.up-2.ensures c.task.ensures c.task-2.ensures
    (appends_then (appends_then (appends_then c.push_claimed.ensures c.push_nodes.ensures) c.push_sets.ensures) c.push_tasks.ensures)
