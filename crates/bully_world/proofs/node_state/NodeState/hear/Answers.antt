-- Each goal is named, so that a wrong body is refused at once.
use Rattle.std.proofs.Common.{rules}
use Rattle.bully_world.proofs.node_state.NodeState.hear.Goals as goal

pub returns-in-Halt-clause-after : goal.returns-in-Halt-clause-after
returns-in-Halt-clause-after c = search rules
