-- What `Procedure::at` asks of a node holds of every node of a world.
use Rattle.std.proofs.Common.{arith}
use Rattle.bully_world.proofs.TurnLemmas.{suits_inquiry, live_offered}
use Rattle.bully_world.specs.State.{node_state_of}
use Rattle.bully_world.proofs.world.World.resync.Goals as goal

pub restart-requires-clause-up : goal.restart-requires-clause-up
restart-requires-clause-up c =
    let fits = c.node_state-node_state.ensures.fits in
    grind (arith, fits.by_setup.up, c.node.ensures.node, c.up.ensures, c.vector-vector.ensures)

pub restart-requires-clause-point : goal.restart-requires-clause-point
restart-requires-clause-point c =
    let fits = c.node_state-node_state.ensures.fits in
    grind (arith, fits.is_point, c.stored_point.ensures, c.requires, c.node.ensures.node)

pub restart-requires-clause-inquiry : goal.restart-requires-clause-inquiry
restart-requires-clause-inquiry c =
    let fits = c.node_state-node_state.ensures.fits in
    let m = node_state_of c.node_state-node_state.result.now in
    grind (arith, suits_inquiry c.args.self.now.setup c.node.result m.vector m.point fits.by_setup fits.by_point, c.stored_point.ensures, c.requires, c.node.ensures.node, c.coordinator.ensures, c.vector-vector.ensures)

pub restart-requires-clause-call : goal.restart-requires-clause-call
restart-requires-clause-call c live =
    let fits = c.node_state-node_state.ensures.fits in
    let m = node_state_of c.node_state-node_state.result.now in
    let offers = live_offered c.args.self.now.setup c.node.result m.vector m.point m.pending fits.by_call (grind (arith, live, c.holds_live_call.ensures, c.slot.ensures, c.generation-generation.ensures)) in
    grind (arith, offers, c.stored_point.ensures, c.requires, c.node.ensures.node, c.coordinator.ensures, c.vector-vector.ensures)
