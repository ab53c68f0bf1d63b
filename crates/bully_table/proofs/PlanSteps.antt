-- Steps of the loops of planning.
use Rattle.std.proofs.Common.{◌≡◌, ◌≢◌, ℕ, ◌+◌, ◌<◌, ◌≤◌, ◌⊎◌, inl, inr, Bool, true, false, List, [], ◌∷◌, arith, sym, refl, ◌∙◌, Contains, not, ◌==◌, count_by}
use Rattle.std.specs.List.{list_any}
use Rattle.std.proofs.lemmas.Bool.Decides.{nat_tests}
use Rattle.bully_base.specs.NodeSet.{IsFallingBelow, below_node}
use Rattle.bully_table.specs.Planning.{owner_at, places_where, room, taker}
use Rattle.bully_table.proofs.BalanceLemmas.{any_decides}
use Rattle.bully_table.proofs.TotalLemmas.{total, total-sum_by, total-above, total-below-same, one}
use Rattle.bully_table.proofs.PlaceCounts.{places-none, places-more}
use Rattle.bully_table.proofs.StayLemmas.{rooms_below-is, taker-of}

-- the places with other owners
abbrev pub differ : List ℕ → List ℕ → ℕ → Bool
differ old new p = not (owner_at old p == owner_at new p)

pub moves-none : (old new : List ℕ) → 0 ≡ places_where (differ old new) 0
moves-none old new = sym (places-none (differ old new))

pub moves-yes : (old new : List ℕ) (n count : ℕ) → count ≡ places_where (differ old new) n → owner_at old n ≢ owner_at new n → count + 1 ≡ places_where (differ old new) (n + 1)
moves-yes old new n count e h = grind (arith, nat_tests, e, h, places-more (differ old new) n)

pub moves-no : (old new : List ℕ) (n count : ℕ) → count ≡ places_where (differ old new) n → owner_at old n ≡ owner_at new n → count ≡ places_where (differ old new) (n + 1)
moves-no old new n count e h = grind (arith, nat_tests, e, h, places-more (differ old new) n)

-- members below a number, one number more
pub below-none : (f : ℕ → ℕ) (bound : ℕ) (ms : List ℕ) → IsFallingBelow bound ms → total f (below_node 1 ms) ≡ 0
below-none f bound [] falling = refl
below-none f bound (m ∷ ms) falling = grind (arith, nat_tests, falling.0, below-none f m ms falling.2)

pub count-total : (test : ℕ → Bool) (ms : List ℕ) → count_by test ms ≡ total (λ k. one (test k)) ms
count-total test ms = total-sum_by (λ k. one (test k)) ms

pub count-below-none : (test : ℕ → Bool) (bound : ℕ) (ms : List ℕ) → IsFallingBelow bound ms → 0 ≡ count_by test (below_node 1 ms)
count-below-none test bound ms falling = sym (count-total test (below_node 1 ms) ∙ below-none (λ k. one (test k)) bound ms falling)

pub member-or-not : (ms : List ℕ) (k : ℕ) → Contains ms k ⊎ (¬ Contains ms k)
member-or-not ms k = by_case (list_any (λ m. m == k) ms) refl
  where
    by_case : (b : Bool) → list_any (λ m. m == k) ms ≡ b → Contains ms k ⊎ (¬ Contains ms k)
    by_case true e = inl ((any_decides k ms).0 e)
    by_case false e = inr (λ x. absurd (grind (arith, e, (any_decides k ms).1 x)))

pub count-below-all : (test : ℕ → Bool) (bound k : ℕ) (ms : List ℕ) → IsFallingBelow bound ms → bound ≤ k → count_by test (below_node k ms) ≡ count_by test ms
count-below-all test bound k ms falling l = omega (arith, count-total test (below_node k ms), count-total test ms, total-above (λ m. one (test m)) bound k ms falling l)

-- who is found is the taker
pub taken-at : (quotas : ℕ → ℕ) (before : List ℕ) (bound : ℕ) (members : List ℕ) (f : ℕ → ℕ) (m rest index : ℕ) → IsFallingBelow bound members → Contains members m →
    ((k : ℕ) → Contains members k → f k ≡ room quotas before members k) → rest + total f (below_node m members) ≡ index → rest < f m → taker quotas before members index ≡ m
taken-at quotas before bound members f m rest index falling x same e l =
    let below = total-below-same f (room quotas before members) m members same in
    let here = same m x in
    taker-of quotas bound before members m index falling x (omega (arith, rooms_below-is quotas before members m), omega (arith, rooms_below-is quotas before members m))
