-- The weights that a document tells.
use Rattle.std.proofs.Common.{◌≡◌, ◌∙◌, ◌⊎◌, inl, inr, ℕ, ℤ, min, ◌+◌, ◌-◌, ◌≤◌, ◌++◌, ◌==◌, Bool, true, not, List, [], ◌∷◌, length, take, drop, replicate, map, All, Option, Some, None, Result, Ok, IfOk, is_some, option_and_then, refl, sym, ap, arith, ◌&&◌, ◌||◌}
use Rattle.std.specs.List.{list_all}
use Rattle.std.proofs.lemmas.Bool.{and_parts, false≢true}
use Rattle.std.proofs.lemmas.List.{length-append, length-drop, length-map, length-replicate, length-take, take_at, take-replicate}
use Rattle.std.proofs.lemmas.List.Elements.{All-cons, All-nil, All-replicate}
use Rattle.toml.specs.Data.{Data, Members, as_integer}
use Rattle.toml.specs.View.{view}
use Rattle.toml.specs.declared.value.Value.{Value}
use Rattle.bully_base.specs.declared.TheConstants.{WEIGHT_MAX}
use Rattle.bully_base.specs.declared.setup.SetupFault.{SetupFault}
use Rattle.bully_base.specs.Setup.{AreWeights, IsWeight, Setup}
use Rattle.bully_config.specs.declared.fault.Key.{Key}
use Rattle.bully_config.specs.Document.{items_at, value_at}
use Rattle.bully_config.specs.Refusals.{are_weights, is_weight}
use Rattle.bully_config.specs.Values.{events_in, keeps_in, nodes_in, or_zero, partitions_in, values_of, weight_told, weights_in, within}
use Rattle.bully_config.proofs.FaultLemmas.{within_range}

-- an integer that is told as a weight is one
weight-within : (o : Option ℤ) → is_some (option_and_then (within 1 WEIGHT_MAX) o) ≡ true → IsWeight (or_zero (option_and_then (within 1 WEIGHT_MAX) o))
weight-within None e = absurd (false≢true e)
weight-within (Some z) e = by_value (within 1 WEIGHT_MAX z) refl e
  where
    by_value : (r : Option ℕ) → within 1 WEIGHT_MAX z ≡ r → is_some r ≡ true → IsWeight (or_zero r)
    by_value None at e = absurd (false≢true e)
    by_value (Some w) at e =
        let (low, high) = within_range 1 WEIGHT_MAX w z at in
        (omega (arith, low), high)

weights-each : (ds : List Data) → list_all is_weight ds ≡ true → All IsWeight (map weight_told ds)
weights-each [] all = All-nil IsWeight
weights-each (d ∷ ds) all =
    let (here, later) = and_parts (is_weight d) (list_all is_weight ds) all in
    All-cons IsWeight (weight_told d) (map weight_told ds) (weight-within (as_integer d) here) (weights-each ds later)

no-items : (key : Key) (ms : Members) → value_at key ms ≡ None → items_at key ms ≡ []
unfolding items_at
no-items key ms none = rw none refl

-- the key isn't there, or it has a weight for each node
abbrev AreTold : ℕ → Members → Type 0
AreTold nodes ms =
    (is_some (value_at Key.Weights ms) ≡ true) × (length (items_at Key.Weights ms) ≡ nodes) × (list_all is_weight (items_at Key.Weights ms) ≡ true)

told-or-not : (nodes : ℕ) (ms : Members) → are_weights nodes ms ≡ true → (value_at Key.Weights ms ≡ None) ⊎ AreTold nodes ms
told-or-not nodes ms e = by_value (value_at Key.Weights ms) refl e
  where
    by_value : (o : Option Data) → value_at Key.Weights ms ≡ o
        → (not (is_some o) || ((length (items_at Key.Weights ms) == nodes) && list_all is_weight (items_at Key.Weights ms))) ≡ true
        → (value_at Key.Weights ms ≡ None) ⊎ AreTold nodes ms
    by_value None at e = inl at
    by_value (Some d) at e =
        let (same, each) = and_parts (length (items_at Key.Weights ms) == nodes) (list_all is_weight (items_at Key.Weights ms)) e in
        let count : length (items_at Key.Weights ms) ≡ nodes = grind (arith, same) in
        inr (ap is_some at, count, each)

-- the weights of the configuration are a weight for each node
pub weights-fit : (nodes : ℕ) (ms : Members) → are_weights nodes ms ≡ true → AreWeights nodes (weights_in nodes ms)
weights-fit nodes ms e = elim (told-or-not nodes ms e) [
  | inl none ↦ rw none (length-replicate nodes 1, All-replicate IsWeight nodes 1 (omega arith, omega arith))
  | inr told ↦ rw told.0 (length-map (items_at Key.Weights ms) weight_told ∙ told.1, weights-each (items_at Key.Weights ms) told.2)
]

weights-few : (nodes : ℕ) (ms : Members) → are_weights nodes ms ≡ true → length (items_at Key.Weights ms) ≤ nodes
weights-few nodes ms e = elim (told-or-not nodes ms e) [
  | inl none ↦ omega (arith, ap (λ (ds : List Data). length ds) (no-items Key.Weights ms none))
  | inr told ↦ omega (arith, told.1)
]

-- the first places of those that are read, where no weight is told, and where one is for each node
weights-first : (nodes most : ℕ) (ms : Members) → nodes ≤ most → are_weights nodes ms ≡ true
    → take nodes (map weight_told (items_at Key.Weights ms) ++ drop (length (items_at Key.Weights ms)) (replicate most 1)) ≡ weights_in nodes ms
weights-first nodes most ms low e = elim (told-or-not nodes ms e) [
  | inl none ↦ rw (none, no-items Key.Weights ms none) (take-replicate nodes most 1 low)
  | inr told ↦
      rw told.0 (take_at (map weight_told (items_at Key.Weights ms)) (drop (length (items_at Key.Weights ms)) (replicate most 1)) nodes
      (length-map (items_at Key.Weights ms) weight_told ∙ told.1))
]

-- the same of the document's values
pub weights-read : (nodes most : ℕ) (ms : Members) (vs : List Value) (all ws : List ℕ) → nodes ≤ most → are_weights nodes ms ≡ true → map view vs ≡ items_at Key.Weights ms
    → all ≡ map weight_told (map view vs) ++ drop (length vs) (replicate most 1) → ws ≡ take nodes all → ws ≡ weights_in nodes ms
weights-read nodes most ms vs all ws low e is read first =
    let count : length vs ≡ length (items_at Key.Weights ms) = sym (length-map vs view) ∙ ap (λ (ds : List Data). length ds) is in
    let same : all ≡ map weight_told (items_at Key.Weights ms) ++ drop (length (items_at Key.Weights ms)) (replicate most 1) =
    read ∙ (λ j. map weight_told (is j) ++ drop (count j) (replicate most 1)) in
    first ∙ ap (take nodes) same ∙ weights-first nodes most ms low e

-- there are no more of them than nodes
pub weights-short : (nodes most : ℕ) (ms : Members) (vs : List Value) → nodes ≤ most → are_weights nodes ms ≡ true → map view vs ≡ items_at Key.Weights ms → length vs ≤ most
weights-short nodes most ms vs low e is =
    let count : length vs ≡ length (items_at Key.Weights ms) = sym (length-map vs view) ∙ ap (λ (ds : List Data). length ds) is in
    omega (arith, low, count, weights-few nodes ms e)

-- a place for each of the most nodes
weights-size : (most : ℕ) (vs : List Value) (all : List ℕ) → length vs ≤ most → all ≡ map weight_told (map view vs) ++ drop (length vs) (replicate most 1) → length all ≡ most
weights-size most vs all few read =
    let ones = replicate {A = ℕ} most 1 in
    let total : length all ≡ length (map weight_told (map view vs)) + length (drop (length vs) ones) = ap (λ (xs : List ℕ). length xs) read ∙ length-append (map weight_told (map view vs)) (drop (length vs) ones) in
    let told : length (map weight_told (map view vs)) ≡ length vs = length-map (map view vs) weight_told ∙ length-map vs view in
    let left : length (drop (length vs) ones) ≡ length ones - length vs = length-drop (length vs) ones in
    let size : length ones ≡ most = length-replicate {A = ℕ} most 1 in
    omega (arith, total, told, left, size, few)

pub weights-slice : (nodes most : ℕ) (vs : List Value) (all : List ℕ) → nodes ≤ most → length vs ≤ most → all ≡ map weight_told (map view vs) ++ drop (length vs) (replicate most 1)
    → nodes ≡ length (take nodes all)
weights-slice nodes most vs all low few read =
    let size : length (take nodes all) ≡ min nodes (length all) = length-take nodes all in
    omega (arith, low, size, weights-size most vs all few read)

-- the setup that was made is the one of the values
pub setup-told : (ms : Members) (r : Result Setup SetupFault) (s : Setup) (n p e : ℕ) (k : Bool) (ws : List ℕ) → r ≡ Ok s
    → IfOk r (λ s. s ≡ record { nodes = n; partitions = p; events_max = e; keeps = k; weights = ws })
    → nodes_in ms ≡ Some n → partitions_in ms ≡ Some p → events_in ms ≡ Some e → k ≡ keeps_in ms → ws ≡ weights_in n ms → s ≡ (values_of ms).setup
setup-told ms r s n p e k ws ok made at_n at_p at_e keeps weights =
    let is : s ≡ record { nodes = n; partitions = p; events_max = e; keeps = k; weights = ws } = rw ok at made in
    let number : n ≡ or_zero (nodes_in ms) = sym (ap or_zero at_n) in
    let parts : p ≡ or_zero (partitions_in ms) = sym (ap or_zero at_p) in
    let events : e ≡ or_zero (events_in ms) = sym (ap or_zero at_e) in
    let each : ws ≡ weights_in (or_zero (nodes_in ms)) ms = weights ∙ ap (λ i. weights_in i ms) number in
    is ∙ (λ j. record { nodes = number j; partitions = parts j; events_max = events j; keeps = keeps j; weights = each j })
