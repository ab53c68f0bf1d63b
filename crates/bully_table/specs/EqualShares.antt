-- Equal shares: what balanced, quotas and plans come to where all nodes weigh 1 and no task is kept.
use Rattle.std.specs.Prelude.{◌≡◌, ◌↔◌, ℕ, ◌+◌, ◌/◌, ◌%◌, ◌≤◌, List, length, Option, All, Contains}
use Rattle.bully_base.specs.NodeSet.{IsFallingBelow}
use Rattle.bully_base.specs.Setup.{even_setup}
use Rattle.bully_table.specs.Balance.{count_of, IsBalanced}
use Rattle.bully_table.specs.Planning.{owners_before, quota_by, quota, planned_by, planned}

-- every owner is a member, and the counts of two members differ by one at most
pub record IsEven (table members : List ℕ) : Type 0 where
  pub owned : All (Contains members) table
  pub even : (a b : ℕ) → Contains members a → Contains members b → count_of a table ≤ count_of b table + 1

-- equal quotas: each member has the partitions divided by the number of members, and what division leaves goes to some
abbrev pub equal_quota : ℕ → List ℕ → List ℕ → ℕ → ℕ
equal_quota partitions before members =
    quota_by (λ m. partitions / length members) (partitions % length members) before members

-- and the table that they make
abbrev pub equal_planned : ℕ → Option (List ℕ) → List ℕ → List ℕ
equal_planned partitions old members =
    planned_by (equal_quota partitions (owners_before old) members) partitions (owners_before old) members

-- ---- with weights of 1 the rules by weight are these

abbrev pub BalanceIsEven : Type 0
BalanceIsEven = (n p e : ℕ) (table members : List ℕ) → IsFallingBelow (n + 1) members → length table ≡ p
    → IsBalanced (even_setup n p e) table members ↔ IsEven table members

abbrev pub QuotaIsEqual : Type 0
QuotaIsEqual = (n p e : ℕ) (before members : List ℕ) (m : ℕ) → IsFallingBelow (n + 1) members
    → quota (even_setup n p e) before members m ≡ equal_quota p before members m

abbrev pub PlannedIsEqual : Type 0
PlannedIsEqual = (n p e : ℕ) (old : Option (List ℕ)) (members : List ℕ) → IsFallingBelow (n + 1) members
    → planned (even_setup n p e) old members ≡ equal_planned p old members
