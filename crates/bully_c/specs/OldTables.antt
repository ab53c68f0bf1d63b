-- Tables of an epoch before, as C has them.
use Rattle.std.specs.Prelude.{◌≡◌, ◌≢◌, ◌⊎◌, ◌+◌, ◌≤◌, ◌==◌, ℕ, List, [], ◌∷◌, Option, Some, None, All, length, map}
use Rattle.std.specs.Prelude.{nat_lt, if◌then◌else◌}
use Rattle.bully_base.specs.Setup.{Setup}
use Rattle.bully_base.specs.declared.TheConstants.{NODES_MAX}
use Rattle.bully_c.specs.declared.status.TheConstants.{OUT_OF_MEMORY, TABLE_LENGTH, TABLE_OWNER}

-- the owner; or if it is 0, which is an owner that is gone, a node that a group of this size lacks; in the largest
-- group, which lacks none, node 1
abbrev pub owner_before : ℕ → ℕ → ℕ
owner_before nodes owner = if owner == 0 then (if nat_lt nodes NODES_MAX then nodes + 1 else 1) else owner

-- the old table of these owners, if there are any, in a group of this many nodes
abbrev pub old_given : ℕ → List ℕ → Option (List ℕ)
old_given nodes [] = None
old_given nodes (owner ∷ owners) = Some (map (owner_before nodes) (owner ∷ owners))

-- a node of the setup, or 0
abbrev pub IsOldOwner : Setup → ℕ → Type 0
IsOldOwner s owner = owner ≤ s.nodes

abbrev pub AreOldOwners : Setup → List ℕ → Type 0
AreOldOwners s owners = All (λ owner. IsOldOwner s owner) owners

-- there are no owners, or they are those of an old table
abbrev pub AreOld : Setup → List ℕ → Type 0
AreOld s [] = Unit {0}
AreOld s (owner ∷ owners) = (length (owner ∷ owners) ≡ s.partitions) × AreOldOwners s (owner ∷ owners)

-- why they are not, or that an allocation failed; none at all is never refused
abbrev pub RefusesOld : Setup → List ℕ → ℕ → Type 0
RefusesOld s [] status = ⊥
RefusesOld s (owner ∷ owners) status =
    ((status ≡ TABLE_LENGTH) × (length (owner ∷ owners) ≢ s.partitions))
    ⊎ ((status ≡ TABLE_OWNER) × (length (owner ∷ owners) ≡ s.partitions) × ¬ AreOldOwners s (owner ∷ owners))
    ⊎ ((status ≡ OUT_OF_MEMORY) × AreOld s (owner ∷ owners))
