-- The lines of the nodes, which grow by one.
use Rattle.std.proofs.Common.{◌≡◌, ℕ, ◌+◌, List, ◌++◌, append_assoc, add-one, ap, arith}
use Rattle.bully_base.specs.Places.{at_node}
use Rattle.bully_world.specs.State.{StoredNode, empty_state, world_in}
use Rattle.bully_world.specs.World.{NodeState}
use Rattle.bully_world.proofs.WorldIn.{node_state-world_in}
use Rattle.bully_trace.specs.VerdictText.{node_line, node_lines}

-- the line of one more node
pub node_lines-next : (ms : List StoredNode) (start text new line : List ℕ) (n i : ℕ) → n + 1 ≡ i → text ≡ start ++ node_lines (world_in ms) n → new ≡ text ++ line → line ≡ node_line i (at_node (empty_state 0) ms i).vector.vector → new ≡ start ++ node_lines (world_in ms) (n + 1)
node_lines-next ms start text new line n i e was now is =
    let same = ap (λ (m : NodeState). m.vector) (node_state-world_in ms i) in
    grind (arith, e, was, now, is, same, add-one, append_assoc)
