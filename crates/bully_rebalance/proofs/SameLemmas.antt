-- A table that is balanced over some nodes is the planned one over them.
use Rattle.std.proofs.Common.{◌≡◌, ◌≢◌, ◌<◌, ◌≤◌, ◌+◌, ◌==◌, ◌⊎◌, inl, inr, not, ℕ, zero, suc, Bool, true, false, List, [], ◌∷◌, Some, length, arith, refl, sym, ap, subst, ◌∙◌}
use Rattle.std.proofs.lemmas.Bool.Decides.{Decides-eqb}
use Rattle.std.proofs.lemmas.List.{ext_get_or}
use Rattle.bully_base.proofs.NodeSetLemmas.{with_node-top}
use Rattle.bully_base.specs.NodeSet.{IsFallingBelow, with_node}
use Rattle.bully_base.specs.Setup.{IsNode, IsSetup, Setup}
use Rattle.bully_base.specs.declared.TheConstants.{NODES_MAX}
use Rattle.bully_rebalance.proofs.Rebalanced.{plannable_over}
use Rattle.bully_table.proofs.PlaceCounts.{places-next, places-none}
use Rattle.bully_table.proofs.PlannedLemmas.{planned-fewest}
use Rattle.bully_table.proofs.TotalLemmas.{one}
use Rattle.bully_table.specs.Balance.{IsBalanced}
use Rattle.bully_table.specs.Planning.{IsFewest, moves, owner_at, places_where, planned}

-- where no offset passes, none is counted; and where none is counted, none passes
none_where : (f : ℕ → Bool) (n : ℕ) → ((p : ℕ) → f p ≡ false) → places_where f n ≡ 0
none_where f zero fails_all = places-none f
none_where f (suc n) fails_all =
    let next = places-next f n in
    let before = none_where f n fails_all in
    let this : one (f n) ≡ 0 = ap one (fails_all n) in
    omega (arith, next, before, this)

fails : (b : Bool) → one b ≡ 0 → b ≡ false
fails true e = absurd (omega (arith, e))
fails false e = refl

at_last : (f : ℕ → Bool) (n p : ℕ) → one (f n) ≡ 0 → (p < n → f p ≡ false) → (p ≡ n) ⊎ (p < n) → f p ≡ false
at_last f n p none before (inl e) = subst (λ x. f x ≡ false) (sym e) (fails (f n) none)
at_last f n p none before (inr low) = before low

where_none : (f : ℕ → Bool) (n p : ℕ) → places_where f n ≡ 0 → p < n → f p ≡ false
where_none f zero p none low = absurd (omega (arith, low))
where_none f (suc n) p none low =
    let next = places-next f n in
    at_last f n p (omega (arith, next, none)) (where_none f n p (omega (arith, next, none))) (grind (arith, low))

alike : (a b : ℕ) → not (a == b) ≡ false → a ≡ b
alike a b same = by_test (a == b) (Decides-eqb a b).0 same
  where
    by_test : (t : Bool) → (t ≡ true → a ≡ b) → not t ≡ false → a ≡ b
    by_test true is e = is refl
    by_test false is e = absurd (cc e)

itself : (a : ℕ) → not (a == a) ≡ false
itself a = ap not ((Decides-eqb a a).1 refl)

pub stays_lem : (setup : Setup) (old live : List ℕ) → IsSetup setup → IsFallingBelow (setup.nodes + 1) live → live ≢ [] → length old ≡ setup.partitions → IsBalanced setup old live → planned setup (Some old) live ≡ old
stays_lem setup old [] setups falls some sized balanced = absurd (some refl)
stays_lem setup old (h ∷ low) setups falls some sized balanced = sym (ext_get_or 0 old (planned setup (Some old) (h ∷ low)) (sized ∙ sym fewest.covers) same)
  where
    node : IsNode setup h
    node = let within = falls.1 in (falls.0, omega (arith, within))

    fewest : IsFewest setup (Some old) (planned setup (Some old) (h ∷ low)) (h ∷ low)
    fewest =
        subst (λ ms. IsFewest setup (Some old) (planned setup (Some old) ms) ms) (with_node-top h low falls.2)
        (planned-fewest setup (NODES_MAX + 1) (Some old) (with_node h low) (plannable_over setup h low (Some old) setups node falls.2 sized))

    few : moves old (planned setup (Some old) (h ∷ low)) ≤ moves old old
    few = fewest.least old sized balanced

    none : moves old old ≡ 0
    none = none_where (λ p. not (owner_at old p == owner_at old p)) (length old) (λ p. itself (owner_at old p))

    same : (p : ℕ) → p < length old → owner_at old p ≡ owner_at (planned setup (Some old) (h ∷ low)) p
    same p within =
        let covers = fewest.covers in
        alike (owner_at old p) (owner_at (planned setup (Some old) (h ∷ low)) p)
        (where_none (λ q. not (owner_at old q == owner_at (planned setup (Some old) (h ∷ low)) q)) (length (planned setup (Some old) (h ∷ low))) p (omega (arith, few, none)) (omega (arith, within, sized, covers)))
