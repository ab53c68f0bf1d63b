-- Quotas: how many there are in all, and that no balanced table can keep more than they do.
use Rattle.std.proofs.Common.{◌≡◌, ℕ, ◌+◌, ◌-◌, ◌<◌, ◌≤◌, min, Bool, true, false, cond, List, [], ◌∷◌, length, arith, refl, ◌∙◌, All, Contains, ◌&&◌, not, nat_lt, ◌==◌, count_by}
use Rattle.std.specs.List.{list_any}
use Rattle.std.proofs.lemmas.Bool.Decides.{nat_tests}
use Rattle.std.proofs.lemmas.List.Elements.{All-head, All-tail}
use Rattle.std.proofs.lemmas.List.Sums.{sum_by-cons}
use Rattle.bully_base.specs.NodeSet.{IsFallingBelow}
use Rattle.bully_base.specs.Setup.{Setup}
use Rattle.bully_table.specs.Balance.{count_of, total_weight, base_of, IsFair}
use Rattle.bully_table.specs.Planning.{holds_more, comes_first, quota_by, rest_of, quota}
use Rattle.bully_table.proofs.BalanceLemmas.{any_decides}
use Rattle.bully_table.proofs.TotalLemmas.{total, total-sum_by, total-add, total-same, total-le, total-constant, total-one, lower, passing, one, first-ones}
use Rattle.bully_table.proofs.PartLemmas.{bases-fit, bases-left}

-- bases and rest make up the partitions
pub shares : (setup : Setup) (members : List ℕ) → 0 < length members → 0 < total_weight setup members → (total (base_of setup members) members + rest_of setup members ≡ setup.partitions) × (rest_of setup members < length members)
shares setup members some weighs =
    let sum = total-sum_by (base_of setup members) members in
    let low = bases-fit setup members weighs in
    let high = bases-left setup members weighs some in
    (omega arith, omega arith)

-- of counts that each are the base or one more, as many are one more as the bases leave
pub more-fixed : (base counts : ℕ → ℕ) (rest : ℕ) (members : List ℕ) → ((m : ℕ) → Contains members m → IsFair (base m) (counts m)) → total counts members ≡ total base members + rest →
    passing (λ m. nat_lt (base m) (counts m)) members ≡ rest
more-fixed base counts rest members fair sum =
    let parted = total-same counts (λ m. base m + one (nat_lt (base m) (counts m))) members (λ m x. apart m (fair m x)) in
    let split = total-add base (λ m. one (nat_lt (base m) (counts m))) members in
    omega arith
  where
    apart : (m : ℕ) → IsFair (base m) (counts m) → counts m ≡ base m + one (nat_lt (base m) (counts m))
    apart m h = grind (arith, nat_tests, h)

abbrev pub rank : (ℕ → ℕ) → List ℕ → List ℕ → ℕ → ℕ
rank base before members m = count_by (λ k. comes_first (holds_more base before) k m) members

pub rank-large : (base : ℕ → ℕ) (before members : List ℕ) (m : ℕ) → holds_more base before m ≡ true → rank base before members m ≡ lower (holds_more base before) m members
rank-large base before members m e =
    total-sum_by (λ k. one (comes_first (holds_more base before) k m)) members
    ∙ total-same _ _ members (λ k x. grind (arith, e))

pub rank-small : (base : ℕ → ℕ) (before members : List ℕ) (m : ℕ) → holds_more base before m ≡ false → rank base before members m ≡ passing (holds_more base before) members + lower (λ k. not (holds_more base before k)) m members
rank-small base before members m e =
    total-sum_by (λ k. one (comes_first (holds_more base before) k m)) members
    ∙ (total-same _ (λ k. one (holds_more base before k) + one (not (holds_more base before k) && nat_lt k m)) members (λ k x. grind (arith, e))
    ∙ total-add (λ k. one (holds_more base before k)) (λ k. one (not (holds_more base before k) && nat_lt k m)) members)

-- whether a member gets one more than its base
abbrev pub extra : (ℕ → ℕ) → ℕ → List ℕ → List ℕ → ℕ → Bool
extra base rest before members m = nat_lt (rank base before members m) rest

pub extras-large : (base : ℕ → ℕ) (rest bound : ℕ) (before members : List ℕ) → IsFallingBelow bound members →
    total (λ m. one (holds_more base before m && extra base rest before members m)) members ≡ min rest (passing (holds_more base before) members)
extras-large base rest bound before members falling =
    let first = first-ones (holds_more base before) 0 rest bound members falling in
    let counted = total-same (λ m. one (holds_more base before m && extra base rest before members m)) (λ m. one (holds_more base before m && nat_lt (0 + lower (holds_more base before) m members) rest)) members (λ m x. same m (holds_more base before m) refl) in
    omega arith
  where
    same : (m : ℕ) (b : Bool) → holds_more base before m ≡ b → one (holds_more base before m && extra base rest before members m) ≡ one (holds_more base before m && nat_lt (0 + lower (holds_more base before) m members) rest)
    same m true e = grind (arith, e, rank-large base before members m e)
    same m false e = grind (arith, e)

extras-small : (base : ℕ → ℕ) (rest bound : ℕ) (before members : List ℕ) → IsFallingBelow bound members →
    total (λ m. one (not (holds_more base before m) && extra base rest before members m)) members ≡ min (rest - passing (holds_more base before) members) (passing (λ k. not (holds_more base before k)) members)
extras-small base rest bound before members falling =
    total-same _ (λ m. one (not (holds_more base before m) && nat_lt (passing (holds_more base before) members + lower (λ k. not (holds_more base before k)) m members) rest)) members (λ m x. same m (holds_more base before m) refl)
    ∙ first-ones (λ k. not (holds_more base before k)) (passing (holds_more base before) members) rest bound members falling
  where
    same : (m : ℕ) (b : Bool) → holds_more base before m ≡ b → one (not (holds_more base before m) && extra base rest before members m) ≡ one (not (holds_more base before m) && nat_lt (passing (holds_more base before) members + lower (λ k. not (holds_more base before k)) m members) rest)
    same m true e = grind (arith, e)
    same m false e = grind (arith, e, rank-small base before members m e)

passing-parts : (test : ℕ → Bool) (ms : List ℕ) → passing test ms + passing (λ k. not (test k)) ms ≡ length ms
passing-parts test [] = refl
passing-parts test (m ∷ ms) = grind (arith, passing-parts test ms)

extras-all : (base : ℕ → ℕ) (rest bound : ℕ) (before members : List ℕ) → IsFallingBelow bound members → rest ≤ length members →
    total (λ m. one (extra base rest before members m)) members ≡ rest
extras-all base rest bound before members falling l =
    let first = extras-large base rest bound before members falling in
    let second = extras-small base rest bound before members falling in
    let parts = passing-parts (holds_more base before) members in
    let split = total-add (λ m. one (holds_more base before m && extra base rest before members m)) (λ m. one (not (holds_more base before m) && extra base rest before members m)) members in
    let same : total (λ m. one (extra base rest before members m)) members ≡ total (λ m. one (holds_more base before m && extra base rest before members m) + one (not (holds_more base before m) && extra base rest before members m)) members = total-same _ _ members (λ m x. grind arith) in
    omega arith

pub quota-is : (base : ℕ → ℕ) (rest : ℕ) (before members : List ℕ) (m : ℕ) → Contains members m → quota_by base rest before members m ≡ base m + one (extra base rest before members m)
unfolding quota_by
quota-is base rest before members m x =
    let is_member = (any_decides m members).1 x in
    rw is_member (grind arith)

pub quota-outside : (base : ℕ → ℕ) (rest : ℕ) (before members : List ℕ) (m : ℕ) → ¬ Contains members m → quota_by base rest before members m ≡ 0
unfolding quota_by
quota-outside base rest before members m out = by_case (list_any (λ k. k == m) members) refl
  where
    by_case : (b : Bool) → list_any (λ k. k == m) members ≡ b → quota_by base rest before members m ≡ 0
    by_case true e = absurd (out ((any_decides m members).0 e))
    by_case false e = rw e refl

pub quotas-total : (setup : Setup) (bound : ℕ) (before members : List ℕ) → IsFallingBelow bound members → 0 < length members → 0 < total_weight setup members → total (quota setup before members) members ≡ setup.partitions
quotas-total setup bound before members falling some weighs =
    let share = shares setup members some weighs in
    let same = total-same (quota setup before members) _ members (λ m x. quota-is (base_of setup members) (rest_of setup members) before members m x) in
    let split = total-add (base_of setup members) (λ m. one (extra (base_of setup members) (rest_of setup members) before members m)) members in
    let extras = extras-all (base_of setup members) (rest_of setup members) bound before members falling (omega arith) in
    omega arith

-- what a table of such counts can keep at most
most-by : (base : ℕ → ℕ) (rest bound : ℕ) (before members : List ℕ) (counts shares_of : ℕ → ℕ) → IsFallingBelow bound members →
    ((m : ℕ) → Contains members m → IsFair (base m) (counts m)) → total counts members ≡ total base members + rest →
    ((m : ℕ) → Contains members m → shares_of m ≡ base m + one (extra base rest before members m)) →
    total (λ m. min (count_of m before) (counts m)) members ≤ total (λ m. min (count_of m before) (shares_of m)) members
most-by base rest bound before members counts shares_of falling fair sum is =
    let others = total-same (λ m. min (count_of m before) (counts m)) (λ m. min (count_of m before) (base m) + one (holds_more base before m && nat_lt (base m) (counts m))) members (λ m x. other m (fair m x)) in
    let others_split = total-add (λ m. min (count_of m before) (base m)) (λ m. one (holds_more base before m && nat_lt (base m) (counts m))) members in
    let mine = total-same (λ m. min (count_of m before) (shares_of m)) (λ m. min (count_of m before) (base m) + one (holds_more base before m && extra base rest before members m)) members (λ m x. own m (is m x)) in
    let mine_split = total-add (λ m. min (count_of m before) (base m)) (λ m. one (holds_more base before m && extra base rest before members m)) members in
    let extras = extras-large base rest bound before members falling in
    let by_large = total-le (λ m. one (holds_more base before m && nat_lt (base m) (counts m))) (λ m. one (holds_more base before m)) members (λ m x. grind arith) in
    let by_rest = total-le (λ m. one (holds_more base before m && nat_lt (base m) (counts m))) (λ m. one (nat_lt (base m) (counts m))) members (λ m x. grind arith) in
    let more = more-fixed base counts rest members fair sum in
    omega arith
  where
    other : (m : ℕ) → IsFair (base m) (counts m) → min (count_of m before) (counts m) ≡ min (count_of m before) (base m) + one (holds_more base before m && nat_lt (base m) (counts m))
    other m h = grind (arith, nat_tests, h)

    own : (m : ℕ) → shares_of m ≡ base m + one (extra base rest before members m) → min (count_of m before) (shares_of m) ≡ min (count_of m before) (base m) + one (holds_more base before m && extra base rest before members m)
    own m e = grind (arith, nat_tests, e)

pub kept-most : (setup : Setup) (bound : ℕ) (before members : List ℕ) (counts : ℕ → ℕ) → IsFallingBelow bound members → 0 < length members → 0 < total_weight setup members →
    ((m : ℕ) → Contains members m → IsFair (base_of setup members m) (counts m)) → total counts members ≡ setup.partitions →
    total (λ m. min (count_of m before) (counts m)) members ≤ total (λ m. min (count_of m before) (quota setup before members m)) members
kept-most setup bound before members counts falling some weighs fair sum =
    most-by (base_of setup members) (rest_of setup members) bound before members counts (quota setup before members) falling fair (omega (arith, shares setup members some weighs)) (λ m x. quota-is (base_of setup members) (rest_of setup members) before members m x)

-- each owner in a table is counted once among the members
pub counts-total : (bound : ℕ) (members table : List ℕ) → IsFallingBelow bound members → All (Contains members) table → total (λ m. count_of m table) members ≡ length table
counts-total bound members [] falling all = total-constant 0 members ∙ grind arith
counts-total bound members (x ∷ xs) falling all =
    let more = counts-total bound members xs falling (All-tail (Contains members) x xs all) in
    let once = total-one bound x members falling (All-head (Contains members) x xs all) in
    let split = total-add (λ m. cond (x == m) 1 0) (λ m. count_of m xs) members in
    let same = total-same (λ m. count_of m (x ∷ xs)) (λ m. cond (x == m) 1 0 + count_of m xs) members (λ m y. sum_by-cons (λ owner. cond (owner == m) 1 0) x xs) in
    omega arith
