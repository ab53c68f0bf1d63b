-- Setups and their weights.
use Rattle.std.proofs.Common.{◌≡◌, Result, Ok, Err, ℕ, zero, suc, ◌-◌, ◌<◌, ◌≤◌, Bool, true, false, List, [], ◌∷◌, ◌++◌, length, replicate, take, drop, arith, sym, refl, ◌∙◌, ap, ◌==◌, ◌&&◌, ◌↔◌, bytes_eq, not}
use Rattle.std.specs.Result.{IsOk}
use Rattle.std.specs.Bool.{beq}
use Rattle.std.specs.Cmp.{booleans_Decides}
use Rattle.std.specs.List.{list_all}
use Rattle.std.proofs.lemmas.Bool.{and_parts}
use Rattle.std.proofs.lemmas.Bool.Decides.{Decides-eqb}
use Rattle.std.proofs.lemmas.List.{take_at, take-replicate, drop-replicate, get_or-replicate, length-replicate}
use Rattle.std.proofs.lemmas.List.Elements.{All-get_or, All-replicate}
use Rattle.bully_base.specs.declared.TheConstants.{NODES_MAX}
use Rattle.std.proofs.lemmas.Slice.Eq.{bytes_eq-Decides}
use Rattle.bully_base.specs.declared.setup.SetupFault.{SetupFault}
use Rattle.bully_base.specs.Setup.{Setup, Limits, IsSetup, AreLimits, IsNode, IsNodeNumber, IsPartitionCount, IsEventsBound, IsWeight, AreWeights, limits_of, setup_of, weight_of, padded, even_setup, is_even}
use Rattle.bully_base.specs.SetupEq.{same_limits, same_setup}

-- weights that are written over zeros
pub written-front : (n : ℕ) (weights all : List ℕ) → length weights ≡ n → all ≡ weights ++ drop n (replicate NODES_MAX 0) → take n all ≡ weights
written-front n weights all size is = rw is (take_at weights (drop n (replicate NODES_MAX 0)) n size)

pub written-padded : (n : ℕ) (weights all : List ℕ) → length weights ≡ n → all ≡ weights ++ drop n (replicate NODES_MAX 0) → all ≡ padded n (take n all)
written-padded n weights all size is =
    is ∙ (ap (λ (xs : List ℕ). weights ++ xs) (drop-replicate n NODES_MAX 0) ∙ ap (λ (xs : List ℕ). xs ++ replicate (NODES_MAX - n) 0) (sym (written-front n weights all size is)))

pub setup-written : (limits : Limits) (keeps : Bool) (weights all : List ℕ) → AreLimits limits → AreWeights limits.nodes weights → all ≡ weights ++ drop limits.nodes (replicate NODES_MAX 0) →
    IsSetup (setup_of limits keeps (take limits.nodes all)) × (all ≡ padded limits.nodes (take limits.nodes all))
setup-written limits keeps weights all within h is = (
  rw (written-front limits.nodes weights all h.0 is) (record { nodes = within.nodes; partitions = within.partitions; events = within.events; weights = h }),
  written-padded limits.nodes weights all h.0 is,
)

-- the first of the most ones
pub first-ones : (n : ℕ) (ones : List ℕ) → n ≤ NODES_MAX → ones ≡ take n (replicate NODES_MAX 1) → ones ≡ replicate n 1
first-ones n ones l is = is ∙ take-replicate n NODES_MAX 1 l

pub ones-within : (n : ℕ) (ones : List ℕ) → n ≤ NODES_MAX → ones ≡ take n (replicate NODES_MAX 1) → AreWeights n ones
ones-within n ones l is = rw (first-ones n ones l is) (length-replicate n 1, All-replicate IsWeight n 1 (omega arith, omega arith))

pub even-written : (limits : Limits) (nodes partitions events_max : ℕ) (ones : List ℕ) → limits ≡ record { nodes = nodes; partitions = partitions; events_max = events_max } → nodes ≤ NODES_MAX →
    ones ≡ take nodes (replicate NODES_MAX 1) → setup_of limits false ones ≡ even_setup nodes partitions events_max
even-written limits nodes partitions events_max ones is l e = rw (is, first-ones nodes ones l e) refl

-- a node's weight is within its limits
pub weight-within : (setup : Setup) (i : ℕ) → AreWeights setup.nodes setup.weights → IsNode setup i → IsWeight (weight_of setup i)
weight-within setup i h node = All-get_or IsWeight setup.weights (i - 1) 0 (omega arith) h.1

-- numbers and weights within their limits make a setup
pub weighted-made : (r : Result Setup SetupFault) (n p e : ℕ) (ws : List ℕ) → (r ≡ Err SetupFault.BadNodes) ↔ ¬ IsNodeNumber n
    → (r ≡ Err SetupFault.BadPartitions) ↔ (IsNodeNumber n × ¬ IsPartitionCount p)
    → (r ≡ Err SetupFault.BadLimit) ↔ (IsNodeNumber n × IsPartitionCount p × ¬ IsEventsBound e)
    → (r ≡ Err SetupFault.BadWeights) ↔ (IsNodeNumber n × IsPartitionCount p × IsEventsBound e × ¬ AreWeights n ws)
    → IsNodeNumber n → IsPartitionCount p → IsEventsBound e → AreWeights n ws → IsOk r
weighted-made (Ok s) n p e ws a b c d x y z w = refl
weighted-made (Err SetupFault.BadNodes) n p e ws a b c d x y z w = absurd (a.0 refl x)
weighted-made (Err SetupFault.BadPartitions) n p e ws a b c d x y z w = absurd ((b.0 refl).1 y)
weighted-made (Err SetupFault.BadLimit) n p e ws a b c d x y z w = absurd ((c.0 refl).2 z)
weighted-made (Err SetupFault.BadWeights) n p e ws a b c d x y z w = absurd ((d.0 refl).3 w)

-- in a setup of numbers alone all nodes weigh 1
all-ones : (n : ℕ) → list_all (λ w. w == 1) (replicate n 1) ≡ true
all-ones zero = refl
all-ones (suc n) = all-ones n

-- weights that are all 1
pub ones-all : (ws : List ℕ) → list_all (λ w. w == 1) ws ≡ true → ws ≡ replicate (length ws) 1
ones-all [] e = refl
ones-all (w ∷ ws) e =
    let (here, more) = and_parts (w == 1) (list_all (λ w. w == 1) ws) e in
    ap (λ (v : ℕ). v ∷ ws) ((Decides-eqb w 1).0 here) ∙ ap (λ (vs : List ℕ). 1 ∷ vs) (ones-all ws more)

pub even-is_even : (nodes partitions events_max : ℕ) → is_even (even_setup nodes partitions events_max) ≡ true
even-is_even nodes partitions events_max = all-ones nodes

pub even-weight : (nodes partitions events_max i : ℕ) → 0 < i → i ≤ nodes → weight_of (even_setup nodes partitions events_max) i ≡ 1
even-weight nodes partitions events_max i low high = get_or-replicate nodes (i - 1) 1 0 (omega arith)

-- the same numbers, flag and weights make the same setup
setup-from : (a b : Setup) → a.nodes ≡ b.nodes → a.partitions ≡ b.partitions → a.events_max ≡ b.events_max → a.keeps ≡ b.keeps → a.weights ≡ b.weights → a ≡ b
setup-from a b nodes partitions events keeps weights = grind (arith, nodes, partitions, events, keeps, weights)

-- what compares equal is the same setup
pub same_setup-is : (a b : Setup) → same_setup a b ≡ true → a ≡ b
same_setup-is a b same =
    let (first, weights) = and_parts (same_limits (limits_of a) (limits_of b) && beq a.keeps b.keeps) (bytes_eq a.weights b.weights) same in
    let (limits, keeps) = and_parts (same_limits (limits_of a) (limits_of b)) (beq a.keeps b.keeps) first in
    let (nodes, more) = and_parts (a.nodes == b.nodes) ((a.partitions == b.partitions) && (a.events_max == b.events_max)) limits in
    let (partitions, events) = and_parts (a.partitions == b.partitions) (a.events_max == b.events_max) more in
    setup-from a b ((Decides-eqb a.nodes b.nodes).0 nodes) ((Decides-eqb a.partitions b.partitions).0 partitions) ((Decides-eqb a.events_max b.events_max).0 events)
    ((booleans_Decides a.keeps b.keeps).0 keeps) ((bytes_eq-Decides a.weights b.weights).0 weights)

-- what doesn't compare unequal is the same setup
pub same_setup-by_ne : (a b : Setup) (ne : Bool) → ne ≡ not (same_setup a b) → ne ≡ false → a ≡ b
same_setup-by_ne a b ne is equal = same_setup-is a b (grind (arith, is, equal))
