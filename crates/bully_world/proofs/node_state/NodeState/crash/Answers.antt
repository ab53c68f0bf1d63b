-- Each goal is named, so that a wrong body is refused at once.
use Rattle.std.proofs.Common.{rules}
use Rattle.bully_world.proofs.node_state.NodeState.crash.Goals as goal

pub returns : goal.returns
returns c = search rules
