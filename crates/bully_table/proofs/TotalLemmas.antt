-- Sums over the members of a set, which is a list in falling order.
use Rattle.std.proofs.Common.{◌≡◌, ℕ, ◌+◌, ◌-◌, ◌*◌, ◌<◌, ◌≤◌, min, ◌≢◌, ◌⊎◌, inl, inr, Bool, cond, List, [], ◌∷◌, length, arith, refl, ◌∙◌, ap, Contains, ◌&&◌, nat_lt, ◌==◌, sum_by}
use Rattle.std.proofs.lemmas.Bool.Decides.{nat_tests}
use Rattle.std.proofs.lemmas.List.Sums.{sum_by-cons}
use Rattle.bully_base.specs.NodeSet.{IsFallingBelow, below_node}
use Rattle.bully_table.proofs.BalanceLemmas.{earlier, later}
use Rattle.bully_table.proofs.BalanceSteps.{falling-within}

-- the sum of f over the members
abbrev pub total : (ℕ → ℕ) → List ℕ → ℕ
total f [] = 0
total f (m ∷ ms) = f m + total f ms

pub total-sum_by : (f : ℕ → ℕ) (ms : List ℕ) → sum_by f ms ≡ total f ms
total-sum_by f [] = refl
total-sum_by f (m ∷ ms) = sum_by-cons f m ms ∙ ap (λ (k : ℕ). f m + k) (total-sum_by f ms)

pub total-add : (f g : ℕ → ℕ) (ms : List ℕ) → total (λ m. f m + g m) ms ≡ total f ms + total g ms
total-add f g [] = refl
total-add f g (m ∷ ms) = omega (arith, total-add f g ms)

-- who is a member: the first one, or one of the others
pub Contains-first : (m : ℕ) (ms : List ℕ) → Contains (m ∷ ms) m
Contains-first m ms = (0, omega arith, refl)

pub total-le : (f g : ℕ → ℕ) (ms : List ℕ) → ((m : ℕ) → Contains ms m → f m ≤ g m) → total f ms ≤ total g ms
total-le f g [] h = omega arith
total-le f g (m ∷ ms) h = omega (arith, h m (Contains-first m ms), total-le f g ms (λ k x. h k (later m k ms x)))

pub total-same : (f g : ℕ → ℕ) (ms : List ℕ) → ((m : ℕ) → Contains ms m → f m ≡ g m) → total f ms ≡ total g ms
total-same f g [] h = refl
total-same f g (m ∷ ms) h = omega (arith, h m (Contains-first m ms), total-same f g ms (λ k x. h k (later m k ms x)))

pub total-constant : (c : ℕ) (ms : List ℕ) → total (λ m. c) ms ≡ length ms * c
total-constant c [] = omega arith
total-constant c (m ∷ ms) = grind (arith, total-constant c ms)

-- one term is lower
pub total-lower : (f g : ℕ → ℕ) (ms : List ℕ) (a : ℕ) → Contains ms a → f a < g a → ((m : ℕ) → Contains ms m → f m ≤ g m) → total f ms < total g ms
total-lower f g [] a x l h = absurd (omega (arith, x.1))
total-lower f g (m ∷ ms) a x l h = by_case (earlier m a ms x) (λ y. total-lower f g ms a y l (λ k z. h k (later m k ms z)))
  where
    by_case : (m ≡ a) ⊎ Contains ms a → (Contains ms a → total f ms < total g ms) → f m + total f ms < g m + total g ms
    by_case (inl e) more =
        let here : f m < g m = rw e l in
        omega (arith, total-le f g ms (λ k z. h k (later m k ms z)))
    by_case (inr y) more = omega (arith, more y, h m (Contains-first m ms))

-- a number is counted once among the members
pub total-none : (bound x : ℕ) (ms : List ℕ) → IsFallingBelow bound ms → bound ≤ x → total (λ m. cond (x == m) 1 0) ms ≡ 0
total-none bound x [] f l = refl
total-none bound x (m ∷ ms) f l = grind (arith, nat_tests, f.1, total-none m x ms f.2 (omega (arith, f.1)))

pub total-one : (bound x : ℕ) (ms : List ℕ) → IsFallingBelow bound ms → Contains ms x → total (λ m. cond (x == m) 1 0) ms ≡ 1
total-one bound x [] f h = absurd (omega (arith, h.1))
total-one bound x (m ∷ ms) f h = by_case (earlier m x ms h) (λ y. total-one m x ms f.2 y)
  where
    by_case : (m ≡ x) ⊎ Contains ms x → (Contains ms x → total (λ k. cond (x == k) 1 0) ms ≡ 1) → cond (x == m) 1 0 + total (λ k. cond (x == k) 1 0) ms ≡ 1
    by_case (inl e) more = grind (arith, nat_tests, e, total-none m x ms f.2 (omega (arith, e)))
    by_case (inr y) more = grind (arith, nat_tests, more y, falling-within m ms x f.2 y)

-- the members below k + 1 are those below k, and k if it is one
pub total-above : (f : ℕ → ℕ) (bound k : ℕ) (ms : List ℕ) → IsFallingBelow bound ms → bound ≤ k → total f (below_node k ms) ≡ total f ms
total-above f bound k [] falling l = refl
total-above f bound k (m ∷ ms) falling l = grind (arith, nat_tests, falling.1, total-above f m k ms falling.2 (omega (arith, falling.1)))

pub total-below-member : (f : ℕ → ℕ) (bound k : ℕ) (ms : List ℕ) → IsFallingBelow bound ms → Contains ms k → total f (below_node (k + 1) ms) ≡ total f (below_node k ms) + f k
total-below-member f bound k [] falling h = absurd (omega (arith, h.1))
total-below-member f bound k (m ∷ ms) falling h = by_case (earlier m k ms h) (λ y. total-below-member f m k ms falling.2 y)
  where
    by_case : (m ≡ k) ⊎ Contains ms k → (Contains ms k → total f (below_node (k + 1) ms) ≡ total f (below_node k ms) + f k) → total f (below_node (k + 1) (m ∷ ms)) ≡ total f (below_node k (m ∷ ms)) + f k
    by_case (inl e) more = rw (← e) (grind (arith, nat_tests, total-above f m m ms falling.2 (omega arith), total-above f m (m + 1) ms falling.2 (omega arith)))
    by_case (inr y) more = grind (arith, nat_tests, more y, falling-within m ms k falling.2 y)

pub total-below-other : (f : ℕ → ℕ) (k : ℕ) (ms : List ℕ) → ¬ Contains ms k → total f (below_node (k + 1) ms) ≡ total f (below_node k ms)
total-below-other f k [] h = refl
total-below-other f k (m ∷ ms) h = grind (arith, nat_tests, apart, total-below-other f k ms (λ y. h (later m k ms y)))
  where
    apart : m ≢ k
    apart e = h (0, omega arith, e)

pub total-below-same : (f g : ℕ → ℕ) (k : ℕ) (ms : List ℕ) → ((m : ℕ) → Contains ms m → f m ≡ g m) → total f (below_node k ms) ≡ total g (below_node k ms)
total-below-same f g k [] h = refl
total-below-same f g k (m ∷ ms) h = grind (arith, nat_tests, h m (Contains-first m ms), total-below-same f g k ms (λ j x. h j (later m j ms x)))

pub total-below-le : (f : ℕ → ℕ) (j k : ℕ) (ms : List ℕ) → j ≤ k → total f (below_node j ms) ≤ total f (below_node k ms)
total-below-le f j k [] l = omega arith
total-below-le f j k (m ∷ ms) l = grind (arith, nat_tests, total-below-le f j k ms l)

-- a lower member's part lies below
pub total-below-apart : (f : ℕ → ℕ) (bound j k : ℕ) (ms : List ℕ) → IsFallingBelow bound ms → Contains ms j → j < k → total f (below_node j ms) + f j ≤ total f (below_node k ms)
total-below-apart f bound j k ms falling h l = omega (arith, total-below-member f bound j ms falling h, total-below-le f (j + 1) k ms (omega arith))

pub total-below-within : (f : ℕ → ℕ) (bound j : ℕ) (ms : List ℕ) → IsFallingBelow bound ms → Contains ms j → total f (below_node j ms) + f j ≤ total f ms
total-below-within f bound j ms falling h =
    let low = falling-within bound ms j falling h in
    omega (arith, total-above f bound bound ms falling (omega arith), total-below-apart f bound j bound ms falling h low.1)

-- how many pass the test, and are below m
abbrev pub lower : (ℕ → Bool) → ℕ → List ℕ → ℕ
lower test m ms = total (λ k. cond (test k && nat_lt k m) 1 0) ms

abbrev pub passing : (ℕ → Bool) → List ℕ → ℕ
passing test ms = total (λ k. cond (test k) 1 0) ms

lower-all : (test : ℕ → Bool) (m : ℕ) (ms : List ℕ) → IsFallingBelow m ms → lower test m ms ≡ passing test ms
lower-all test m ms f = total-same _ _ ms (λ k y. grind (arith, nat_tests, falling-within m ms k f y))

abbrev pub one : Bool → ℕ
one b = cond b 1 0

-- of those that pass the test the first r have less than r before them
pub first-ones : (test : ℕ → Bool) (from r bound : ℕ) (ms : List ℕ) → IsFallingBelow bound ms → total (λ m. one (test m && nat_lt (from + lower test m ms) r)) ms ≡ min (r - from) (passing test ms)
first-ones test from r bound [] f = omega arith
first-ones test from r bound (m ∷ ms) f = joined (first-ones test from r m ms f.2) (total-same _ _ ms (λ k y. same k (falling-within m ms k f.2 y).1)) (lower-all test m ms f.2)
  where
    same : (k : ℕ) → k < m → one (test k && nat_lt (from + lower test k (m ∷ ms)) r) ≡ one (test k && nat_lt (from + lower test k ms) r)
    same k l = grind (arith, nat_tests, l)

    joined : total (λ k. one (test k && nat_lt (from + lower test k ms) r)) ms ≡ min (r - from) (passing test ms) →
        total (λ k. one (test k && nat_lt (from + lower test k (m ∷ ms)) r)) ms ≡ total (λ k. one (test k && nat_lt (from + lower test k ms) r)) ms →
        lower test m ms ≡ passing test ms →
        total (λ k. one (test k && nat_lt (from + lower test k (m ∷ ms)) r)) (m ∷ ms) ≡ min (r - from) (passing test (m ∷ ms))
    joined more as_before all_lower = grind (arith, nat_tests, more, as_before, all_lower)
