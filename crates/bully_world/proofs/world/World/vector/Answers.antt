-- A task has the setup's partitions, as what holds of its node says.
use Rattle.bully_world.specs.State.{node_state_of}
use Rattle.bully_world.proofs.NodeStateLemmas.{task_of_fits}
use Rattle.bully_world.proofs.world.World.vector.Goals as goal

pub returns-clause-task : goal.returns-clause-task
returns-clause-task c = rw c.vector.ensures (task_of_fits _ _ (node_state_of c.node_state.result.now) c.node_state.ensures.fits)
