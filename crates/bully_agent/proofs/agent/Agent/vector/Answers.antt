-- A task has the setup's partitions, as what holds of the node says.
use Rattle.bully_world.specs.State.{node_state_of}
use Rattle.bully_world.proofs.NodeStateLemmas.{task_of_fits}
use Rattle.bully_agent.proofs.agent.Agent.vector.Goals as goal

pub returns-clause-task : goal.returns-clause-task
returns-clause-task c =
    let a = c.self.inside in
    rw (← c.self.view_is) (rw c.vector.ensures (task_of_fits a.setup a.node (node_state_of a.node_state) c.self.invariant.fits))
