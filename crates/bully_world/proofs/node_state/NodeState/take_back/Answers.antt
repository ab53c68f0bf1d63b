-- An answer by name: an edit that breaks it is refused at once.
use Rattle.std.proofs.Common.{rules}
use Rattle.bully_world.proofs.node_state.NodeState.take_back.Goals as goal

pub returns-then-is_orphan-clause-after : goal.returns-then-is_orphan-clause-after
returns-then-is_orphan-clause-after c = search rules
