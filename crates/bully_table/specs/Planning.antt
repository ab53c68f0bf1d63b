-- How a task's partitions are spread anew over a set of members, so that few of them move.
use Rattle.std.specs.Prelude.{◌≡◌, ℕ, zero, suc, ◌+◌, ◌-◌, ◌≤◌, Bool, true, false, not, List, [], ◌∷◌, Option, Some}
use Rattle.std.specs.Prelude.{None, map, length, take, ◌&&◌, nat_lt, nat_le, ◌==◌, slice_index_or, count_by}
use Rattle.std.specs.Prelude.{if◌then◌else◌}
use Rattle.std.specs.List.{list_any, range_with_len, sum_by}
use Rattle.bully_base.specs.NodeSet.{below_node}
use Rattle.bully_base.specs.Setup.{Setup}
use Rattle.bully_table.specs.Balance.{count_of, base_of, IsBalanced}

-- the owner at this place, and 0, which is no node, where the table has no such place
abbrev pub owner_at : List ℕ → ℕ → ℕ
owner_at table place = slice_index_or table place 0

-- how many of the first n places pass the test
unfoldable pub places_where : (ℕ → Bool) → ℕ → ℕ
places_where test zero = 0
places_where test (suc n) = if test n then suc (places_where test n) else places_where test n

-- at how many places of the new table the owners differ
abbrev pub moves : List ℕ → List ℕ → ℕ
moves old new = places_where (λ p. not (owner_at old p == owner_at new p)) (length new)

-- how many partitions move; all of them where there is no old table
abbrev pub moves_from : Setup → Option (List ℕ) → List ℕ → ℕ
moves_from setup None new = setup.partitions
moves_from setup (Some old) new = moves old new

-- the table is balanced, and no balanced table has fewer moves
pub record IsFewest (setup : Setup) (old : Option (List ℕ)) (table members : List ℕ) : Type 0 where
  pub covers : length table ≡ setup.partitions
  pub balanced : IsBalanced setup table members
  pub least : (other : List ℕ) → length other ≡ setup.partitions → IsBalanced setup other members
      → moves_from setup old table ≤ moves_from setup old other

-- how many partitions stay: the places at which the owners are the same; none where there is no old table
abbrev pub kept_from : Option (List ℕ) → List ℕ → ℕ
kept_from None new = 0
kept_from (Some old) new = places_where (λ p. owner_at old p == owner_at new p) (length new)

-- some balanced table keeps as many partitions, and none keeps more
pub record IsMostKept (setup : Setup) (old : Option (List ℕ)) (members : List ℕ) (bound : ℕ) : Type 0 where
  pub some : (table : List ℕ) × (length table ≡ setup.partitions) × IsBalanced setup table members
      × (kept_from old table ≡ bound)
  pub none_more : (other : List ℕ) → length other ≡ setup.partitions → IsBalanced setup other members
      → kept_from old other ≤ bound

-- The planned table, by its rule.

-- the owners in the old table, and nobody where there is none
abbrev pub owners_before : Option (List ℕ) → List ℕ
owners_before None = []
owners_before (Some old) = old

-- whether the member has more than its base in the old table
abbrev pub holds_more : (ℕ → ℕ) → List ℕ → ℕ → Bool
holds_more base before m = nat_lt (base m) (count_of m before)

-- whether k comes before m: first those that hold more, in rising number, and then the others
abbrev pub comes_first : (ℕ → Bool) → ℕ → ℕ → Bool
comes_first more k m =
    if more k then (if more m then nat_lt k m else true)
    else (if more m then false else nat_lt k m)

-- how many partitions the node is to own: where it is a member its base, and one more where fewer than `rest` members
-- come before it
unfoldable pub quota_by : (ℕ → ℕ) → ℕ → List ℕ → List ℕ → ℕ → ℕ
quota_by base rest before members m =
    if list_any (λ k. k == m) members then
    (if nat_lt (count_by (λ k. comes_first (holds_more base before) k m) members) rest then base m + 1 else base m)
    else 0

-- how many members own one more than their base by weight: what the bases leave
abbrev pub rest_of : Setup → List ℕ → ℕ
rest_of setup members = setup.partitions - sum_by (base_of setup members) members

-- the quotas by weight
abbrev pub quota : Setup → List ℕ → List ℕ → ℕ → ℕ
quota setup before members = quota_by (base_of setup members) (rest_of setup members) before members

-- The table that quotas make.

-- a partition stays where its owner is a member, and fewer than its quota of the partitions before have that owner
unfoldable pub stays : (ℕ → ℕ) → List ℕ → List ℕ → ℕ → Bool
stays quotas before members p =
    list_any (λ m. m == owner_at before p) members
    && nat_lt (count_of (owner_at before p) (take p before)) (quotas (owner_at before p))

-- how many partitions the member still gets: its quota less what stays with it
unfoldable pub room : (ℕ → ℕ) → List ℕ → List ℕ → ℕ → ℕ
room quotas before members m =
    quotas m - places_where (λ p. stays quotas before members p && (owner_at before p == m)) (length before)

-- the rooms of the lower members
unfoldable pub rooms_below : (ℕ → ℕ) → List ℕ → List ℕ → ℕ → ℕ
rooms_below quotas before members m = sum_by (room quotas before members) (below_node m members)

-- the member that passes the test, and 0 where none does
abbrev pub member_where : (ℕ → Bool) → List ℕ → ℕ
member_where test [] = 0
member_where test (m ∷ ms) = if test m then m else member_where test ms

-- who gets the j-th partition that doesn't stay: the lower members have so much room, and with this one more than that
unfoldable pub taker : (ℕ → ℕ) → List ℕ → List ℕ → ℕ → ℕ
taker quotas before members j =
    member_where (λ m. nat_le (rooms_below quotas before members m) j
    && nat_lt j (rooms_below quotas before members m + room quotas before members m)) members

-- the owner of a partition in the planned table
unfoldable pub planned_owner : (ℕ → ℕ) → List ℕ → List ℕ → ℕ → ℕ
planned_owner quotas before members p =
    if stays quotas before members p then owner_at before p
    else taker quotas before members (places_where (λ k. not (stays quotas before members k)) p)

-- the owners of so many partitions
abbrev pub planned_by : (ℕ → ℕ) → ℕ → List ℕ → List ℕ → List ℕ
planned_by quotas partitions before members = map (planned_owner quotas before members) (range_with_len 0 partitions)

-- the planned table is that of the quotas by weight
abbrev pub planned : Setup → Option (List ℕ) → List ℕ → List ℕ
planned setup old members =
    planned_by (quota setup (owners_before old) members) setup.partitions (owners_before old) members
