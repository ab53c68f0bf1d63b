-- Alone it is a part.
use Rattle.std.proofs.Common.{subst}
use Rattle.bully_world.specs.World.{World}
use Rattle.bully_agent.specs.Agent.{AgentState, PartOf}
use Rattle.bully_agent.proofs.PartLemmas.{alone, alone_part}
use Rattle.bully_agent.proofs.agent.Agent.setup.Goals as goal

pub returns-clause-part : goal.returns-clause-part
returns-clause-part c =
    let a = c.self.inside in
    subst (λ (s : AgentState). (w : World) × PartOf s w) c.self.view_is (alone a.setup a.node a.node_state, alone_part a.setup a.node a.node_state c.self.invariant.is_node c.self.invariant.fits)
