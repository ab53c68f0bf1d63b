-- A set falls, so that what is left behind its highest node is the rest of the list.
use Rattle.std.proofs.Common.{◌≡◌, ◌+◌, ℕ, List, [], ◌∷◌, Some, arith, sym}
use Rattle.bully_base.proofs.NodeSetLemmas.{without_node-highest}
use Rattle.bully_base.specs.NodeSet.{IsFallingBelow, highest_of, without_node}
use Rattle.bully_base.specs.declared.TheConstants.{NODES_MAX}
use Rattle.bully_steps.specs.PointKind.{without_first}
use Rattle.bully_steps.proofs.point_kind.leave_answered.Goals as goal

first_is_highest : (ms : List ℕ) (k b : ℕ) → highest_of ms ≡ Some k → IsFallingBelow b ms → without_first ms ≡ without_node k ms
first_is_highest [] k b e f = grind (arith, e)
first_is_highest (m ∷ ms) k b e f = grind (arith, e, without_node-highest m ms b f)

pub returns-in-Some : goal.returns-in-Some
returns-in-Some c =
    grind (arith, c.if-eq.true, c.eq.ensures, c.remove.ensures.after, first_is_highest c.args.left.now c.in-Some.node (NODES_MAX + 1) (sym c.in-Some.ensures.highest) c.in-Some.ensures.falling)
