-- Where all nodes weigh 1: each member has as many partitions as any other, or one more or less, and a plan is that of
-- equal quotas.
use Rattle.std.proofs.Common.{◌≡◌, ℕ, ◌+◌, ◌-◌, ◌*◌, ◌/◌, ◌%◌, ◌<◌, ◌≤◌, ◌⊎◌, inl, inr, Bool, List, length, arith, sym, refl, ◌∙◌, ap, Contains, nat_lt, count_by}
use Rattle.std.proofs.Math.Path.{fun_ext}
use Rattle.std.proofs.Math.Nat.{mul-one, mod-eq-sub-mul-div}
use Rattle.bully_base.specs.NodeSet.{IsFallingBelow}
use Rattle.bully_base.specs.Setup.{weight_of, even_setup}
use Rattle.bully_base.proofs.SetupLemmas.{even-weight}
use Rattle.bully_table.specs.Balance.{count_of, total_weight, base_of}
use Rattle.bully_table.specs.Planning.{owners_before, holds_more, comes_first, quota_by, rest_of, planned_by}
use Rattle.bully_table.specs.EqualShares.{BalanceIsEven, QuotaIsEqual, PlannedIsEqual}
use Rattle.bully_table.proofs.BalanceSteps.{falling-within}
use Rattle.bully_table.proofs.TotalLemmas.{total, total-sum_by, total-add, total-same, total-le, total-lower, total-constant, one}
use Rattle.bully_table.proofs.PartLemmas.{weights-are, base-is}
use Rattle.bully_table.proofs.ShareLemmas.{quota-is, quota-outside, counts-total}
use Rattle.bully_table.proofs.PlanSteps.{count-total, member-or-not}

-- the members, which are nodes, weigh as much as there are
weighs-one : (n p e : ℕ) (members : List ℕ) (m : ℕ) → IsFallingBelow (n + 1) members → Contains members m → weight_of (even_setup n p e) m ≡ 1
weighs-one n p e members m falling x =
    let within = falling-within (n + 1) members m falling x in
    even-weight n p e m within.0 (omega (arith, within.1))

weigh-length : (n p e : ℕ) (members : List ℕ) → IsFallingBelow (n + 1) members → total_weight (even_setup n p e) members ≡ length members
weigh-length n p e members falling =
    let whole = weights-are (even_setup n p e) members in
    let same = total-same (weight_of (even_setup n p e)) (λ m. 1) members (λ m x. weighs-one n p e members m falling x) in
    whole ∙ (same ∙ (total-constant 1 members ∙ mul-one (length members)))

pub even-base : (n p e : ℕ) (members : List ℕ) (m : ℕ) → IsFallingBelow (n + 1) members → Contains members m → base_of (even_setup n p e) members m ≡ p / length members
even-base n p e members m falling x =
    base-is (even_setup n p e) members m ∙ rw (weighs-one n p e members m falling x, weigh-length n p e members falling, mul-one p) refl

pub even-rest : (n p e : ℕ) (members : List ℕ) → IsFallingBelow (n + 1) members → rest_of (even_setup n p e) members ≡ p % length members
even-rest n p e members falling =
    let sum = total-sum_by (base_of (even_setup n p e) members) members in
    let same = total-same (base_of (even_setup n p e) members) (λ m. p / length members) members (λ m x. even-base n p e members m falling x) in
    ap (λ (k : ℕ). p - k) (sum ∙ (same ∙ total-constant (p / length members) members)) ∙ sym (mod-eq-sub-mul-div p (length members))

-- who comes first depends on the members' tests alone
first-same : (f g : ℕ → Bool) (k m : ℕ) → f k ≡ g k → f m ≡ g m → comes_first f k m ≡ comes_first g k m
first-same f g k m e d = rw (e, d) refl

rank-same : (f g : ℕ → Bool) (members : List ℕ) (m : ℕ) → Contains members m → ((k : ℕ) → Contains members k → f k ≡ g k) → count_by (λ k. comes_first f k m) members ≡ count_by (λ k. comes_first g k m) members
rank-same f g members m x same =
    count-total (λ k. comes_first f k m) members
    ∙ (total-same (λ k. one (comes_first f k m)) (λ k. one (comes_first g k m)) members (λ k y. ap one (first-same f g k m (same k y) (same m x)))
    ∙ sym (count-total (λ k. comes_first g k m) members))

-- and a quota on the members' bases
quota-same : (base other : ℕ → ℕ) (rest : ℕ) (before members : List ℕ) (m : ℕ) → ((k : ℕ) → Contains members k → base k ≡ other k) → quota_by base rest before members m ≡ quota_by other rest before members m
quota-same base other rest before members m same = by_case (member-or-not members m)
  where
    by_case : Contains members m ⊎ (¬ Contains members m) → quota_by base rest before members m ≡ quota_by other rest before members m
    by_case (inl x) =
        let ranks = rank-same (holds_more base before) (holds_more other before) members m x (λ k y. ap (λ (b : ℕ). nat_lt b (count_of k before)) (same k y)) in
        quota-is base rest before members m x ∙ (rw (ranks, same m x) refl ∙ sym (quota-is other rest before members m x))
    by_case (inr out) = quota-outside base rest before members m out ∙ sym (quota-outside other rest before members m out)

pub even-quota : QuotaIsEqual
even-quota n p e before members m falling =
    ap (λ (rest : ℕ). quota_by (base_of (even_setup n p e) members) rest before members m) (even-rest n p e members falling)
    ∙ quota-same (base_of (even_setup n p e) members) (λ k. p / length members) (p % length members) before members m (λ k x. even-base n p e members k falling x)

-- in a table where counts differ by one at most, each member has the base or one more
even-fair : (base rest : ℕ) (members : List ℕ) (counts : ℕ → ℕ) → rest < length members → total counts members ≡ length members * base + rest →
    ((a b : ℕ) → Contains members a → Contains members b → counts a ≤ counts b + 1) → (m : ℕ) → Contains members m → (base ≤ counts m) × (counts m ≤ base + 1)
even-fair base rest members counts less sum even m x = (low (grind arith), high (grind arith))
  where
    low : (base ≤ counts m) ⊎ (counts m < base) → base ≤ counts m
    low (inl l) = l
    low (inr l) =
        let fewer = total-lower counts (λ a. base) members m x l (λ a y. omega (arith, even a m y x)) in
        absurd (omega (arith, total-constant base members))

    high : (counts m ≤ base + 1) ⊎ (base + 1 < counts m) → counts m ≤ base + 1
    high (inl l) = l
    high (inr l) =
        let more = total-le (λ a. base + 1) counts members (λ a y. omega (arith, even m a x y)) in
        let sums = total-add (λ a. base) (λ a. 1) members in
        absurd (omega (arith, total-constant base members, total-constant 1 members))

-- what division leaves
parted : (p k : ℕ) → 0 < k → (p ≡ k * (p / k) + p % k) × (p % k < k)
parted p k pos = (omega arith, omega arith)

pub even-balanced : BalanceIsEven
even-balanced n p e table members falling covers = (
  λ b. record {
    owned = b.owned;
    even = λ a c x y. omega (arith, b.fair a x, b.fair c y, even-base n p e members a falling x, even-base n p e members c falling y);
  },
  λ b. record {
    owned = b.owned;
    fair = λ m x.
        let parts = parted p (length members) (omega (arith, x.1)) in
        rw (even-base n p e members m falling x) (even-fair (p / length members) (p % length members) members (λ k. count_of k table) parts.1 (omega (arith, counts-total (n + 1) members table falling b.owned, parts.0)) b.even m x);
  },
)

-- the same quotas make the same table
pub even-planned : PlannedIsEqual
even-planned n p e old members falling =
    ap (λ (quotas : ℕ → ℕ). planned_by quotas p (owners_before old) members) (fun_ext (λ m. even-quota n p e (owners_before old) members m falling))
