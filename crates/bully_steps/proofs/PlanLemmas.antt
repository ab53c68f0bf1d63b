-- The members that a node plans for: itself and its up set.
use Rattle.std.proofs.Common.{◌≤◌, ◌<◌, ℕ, List, All, arith}
use Rattle.std.proofs.lemmas.List.Elements.{All-weaker}
use Rattle.bully_base.proofs.NodeSetLemmas.{with_node-all, falling-below}
use Rattle.bully_base.specs.NodeSet.{with_node, IsFallingBelow}

-- none of them is above the setup's last, where the node isn't
pub node_and_up : (n i : ℕ) (up : List ℕ) → i ≤ n → IsFallingBelow i up → All (λ m. m ≤ n) (with_node i up)
node_and_up n i up within falls =
    with_node-all (λ m. m ≤ n) i up within (All-weaker (λ j. j < i) (λ j. j ≤ n) (λ j l. omega (arith, l, within)) up (falling-below up i falls))
