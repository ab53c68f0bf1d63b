-- A node that the group doesn't have has the empty vector.
use Rattle.std.proofs.Common.{◌≡◌, ◌<◌, false, length, ap, arith}
use Rattle.std.proofs.lemmas.Bool.Decides.{nat_tests}
use Rattle.bully_base.proofs.PlaceLemmas.{at_node_past}
use Rattle.bully_handlers.specs.Vector.{is_normal}
use Rattle.bully_world.proofs.NodeInvariantLemmas.{lawful_fits}
use Rattle.bully_world.specs.State.{world_of}
use Rattle.bully_world.specs.World.{NodeState, empty_node_state, vector}
use Rattle.bully_trace.proofs.details.is_normal.Goals as goal

pub returns-else-number-nodes : goal.returns-else-number-nodes
returns-else-number-nodes c =
    let world = c.args.world.now in
    let reached = c.setup.ensures.reached in
    let fits = lawful_fits world.setup reached.applied reached.answers (world_of world) reached.lawful in
    let beyond : length (world_of world).states < c.args.node = grind (arith, fits.count, c.setup.ensures.setup, c.nodes.ensures.nodes, c.number.ensures.number, c.if-number-nodes.false) in
    let none : is_normal (vector (world_of world) c.args.node).status ≡ false =
    ap (λ (m : NodeState). is_normal m.vector.status) (at_node_past empty_node_state (world_of world).states c.args.node beyond) in
    grind (arith, nat_tests, none, c.if-number-nodes.false)
