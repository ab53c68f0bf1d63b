use Rattle.bully_nodes.proofs.RunLemmas.{viewed_task}
use Rattle.bully_nodes.proofs.access.prepare_by.Goals as goal

pub prepare-requires : goal.prepare-requires
prepare-requires c = rw c.task.ensures (rw c.requires (viewed_task c.args.shown.now _ c.events.ensures.viewed))
