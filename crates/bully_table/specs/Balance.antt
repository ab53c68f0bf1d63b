-- How a task is spread over nodes: its table has the owner of each partition.
use Rattle.std.specs.Prelude.{ℕ, ◌+◌, ◌*◌, ◌/◌, ◌≤◌, Bool, List, ◌&&◌, nat_le, ◌==◌, sum_by, count_by, All, Contains}
use Rattle.std.specs.List.{list_all, list_any}
use Rattle.bully_base.specs.Setup.{Setup, weight_of}

-- how many partitions the node owns
abbrev pub count_of : ℕ → List ℕ → ℕ
count_of node table = count_by (λ owner. owner == node) table

-- the sum of the members' weights
unfoldable pub total_weight : Setup → List ℕ → ℕ
total_weight setup members = sum_by (weight_of setup) members

-- what the member owns at least: its part of the partitions by weight, rounded down
unfoldable pub base_of : Setup → List ℕ → ℕ → ℕ
base_of setup members m = setup.partitions * weight_of setup m / total_weight setup members

-- so many partitions are the base, or one more
abbrev pub IsFair : ℕ → ℕ → Type 0
IsFair base count = (base ≤ count) × (count ≤ base + 1)

abbrev pub is_fair : ℕ → ℕ → Bool
is_fair base count = nat_le base count && nat_le count (base + 1)

-- every owner is a member, and each member owns its base, or one more
pub record IsBalanced (setup : Setup) (table members : List ℕ) : Type 0 where
  pub owned : All (Contains members) table
  pub fair : (m : ℕ) → Contains members m → IsFair (base_of setup members m) (count_of m table)

-- the same, as a test
abbrev pub is_balanced : Setup → List ℕ → List ℕ → Bool
is_balanced setup table members =
    list_all (λ owner. list_any (λ m. m == owner) members) table
    && list_all (λ m. is_fair (base_of setup members m) (count_of m table)) members
