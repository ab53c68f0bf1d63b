-- The callee is a node of the setup.
use Rattle.std.proofs.Common.{arith}
use Rattle.bully_world.proofs.TurnLemmas.{call_within}
use Rattle.bully_world.proofs.world.World.next.Goals as goal

pub vector-requires : goal.vector-requires
vector-requires c =
    let i = c.node-node.result in
    let s = c.node_state-node_state.result.now in
    call_within c.args.self.now.setup i s.generation s.vector.vector s.point s.slot.content c.in-Some-Some.call c.node_state-node_state.ensures.fits.by_call
    (grind (arith, c.in-Some-Some.is-0, c.call.ensures, c.slot-slot.ensures, c.node-node.ensures.node))
