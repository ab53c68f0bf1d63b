-- How many of the first places pass a test.
use Rattle.std.proofs.Common.{◌≡◌, ℕ, zero, suc, ◌+◌, ◌<◌, ◌≤◌, ◌⊎◌, inl, inr, Bool, true, false, cond, List, length, take, arith, sym, refl, ◌∙◌, ap, Contains, add-one, ◌&&◌, not, ◌==◌}
use Rattle.std.proofs.lemmas.Bool.Decides.{nat_tests}
use Rattle.std.proofs.lemmas.Grind.{common_steps}
use Rattle.std.proofs.lemmas.List.Sums.{sum_by_more}
use Rattle.bully_base.specs.NodeSet.{IsFallingBelow}
use Rattle.bully_table.specs.Balance.{count_of}
use Rattle.bully_table.specs.Planning.{owner_at, places_where}
use Rattle.bully_table.proofs.TotalLemmas.{total, total-add, total-same, total-constant, total-one, one}

pub places-none : (test : ℕ → Bool) → places_where test 0 ≡ 0
unfolding places_where
places-none test = refl

pub places-more : (test : ℕ → Bool) (n : ℕ) → places_where test (n + 1) ≡ places_where test n + one (test n)
unfolding places_where
places-more test n = rw add-one (grind arith)

pub places-next : (test : ℕ → Bool) (n : ℕ) → places_where test (suc n) ≡ places_where test n + one (test n)
unfolding places_where
places-next test n = grind arith

pub places-le : (f g : ℕ → Bool) (n : ℕ) → ((p : ℕ) → p < n → f p ≡ true → g p ≡ true) → places_where f n ≤ places_where g n
unfolding places_where
places-le f g zero h = omega arith
places-le f g (suc n) h = grind (arith, h n (omega arith), places-le f g n (λ p l. h p (omega arith)))

pub places-not : (f : ℕ → Bool) (n : ℕ) → places_where f n + places_where (λ p. not (f p)) n ≡ n
unfolding places_where
places-not f zero = refl
places-not f (suc n) = grind (arith, places-not f n)

-- the places that pass, member by member
pub places-parted : (test : ℕ → Bool) (owner : ℕ → ℕ) (bound : ℕ) (members : List ℕ) (n : ℕ) → IsFallingBelow bound members → ((p : ℕ) → p < n → test p ≡ true → Contains members (owner p)) →
    total (λ m. places_where (λ p. test p && (owner p == m)) n) members ≡ places_where test n
unfolding places_where
places-parted test owner bound members zero falling h = total-constant 0 members ∙ grind arith
places-parted test owner bound members (suc n) falling h = by_case (test n) refl (places-parted test owner bound members n falling (λ p l. h p (omega arith)))
  where
    next : ℕ → ℕ
    next m = places_where (λ p. test p && (owner p == m)) (suc n)

    so_far : ℕ → ℕ
    so_far m = places_where (λ p. test p && (owner p == m)) n

    by_case : (b : Bool) → test n ≡ b → total so_far members ≡ places_where test n → total next members ≡ places_where test (suc n)
    by_case true e more =
        let once = total-one bound (owner n) members falling (h n (omega arith) e) in
        let split = total-add so_far (λ m. cond (owner n == m) 1 0) members in
        let same : total next members ≡ total (λ m. so_far m + cond (owner n == m) 1 0) members = total-same _ _ members (λ m x. grind (arith, e)) in
        grind (arith, once, split, same, more, e)
    by_case false e more =
        let same : total next members ≡ total so_far members = total-same _ _ members (λ m x. grind (arith, e)) in
        grind (arith, same, more, e)

-- the places of an owner, of the first n and of all
pub count-more : (xs : List ℕ) (m n : ℕ) → 0 < m → count_of m (take (n + 1) xs) ≡ count_of m (take n xs) + one (owner_at xs n == m)
count-more xs m n pos = by_case (grind arith)
  where
    by_case : (n < length xs) ⊎ (length xs ≤ n) → count_of m (take (n + 1) xs) ≡ count_of m (take n xs) + one (owner_at xs n == m)
    by_case (inl l) = sum_by_more (λ owner. cond (owner == m) 1 0) xs n 0 l
    by_case (inr l) = grind (arith, nat_tests, common_steps)

pub places-count : (xs : List ℕ) (m n : ℕ) → 0 < m → places_where (λ p. owner_at xs p == m) n ≡ count_of m (take n xs)
places-count xs m zero pos = places-none (λ p. owner_at xs p == m)
places-count xs m (suc n) pos = rw (← add-one) (places-more (λ p. owner_at xs p == m) n ∙ (ap (λ (k : ℕ). k + one (owner_at xs n == m)) (places-count xs m n pos) ∙ sym (count-more xs m n pos)))

pub places-count_all : (xs : List ℕ) (m n : ℕ) → 0 < m → length xs ≤ n → places_where (λ p. owner_at xs p == m) n ≡ count_of m xs
places-count_all xs m n pos l = places-count xs m n pos ∙ grind (arith, common_steps)
