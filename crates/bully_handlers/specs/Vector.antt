-- What a node believes of itself and of the group.
use Rattle.std.specs.Prelude.{ℕ, Bool, true, false, List, [], Option, Some, None, ◌==◌, if◌then◌else◌}
use Rattle.bully_base.specs.declared.node.Status.{Status}
use Rattle.bully_base.specs.declared.node.Status.TheVariants.{Down, Election, Reorganization, Normal}
use Rattle.bully_base.specs.Setup.{Setup}

-- a node's vector; the set of nodes that are up stands in falling order
pub record Vector : Type 0 where
  pub status : Status
  pub coordinator : Option ℕ
  pub halter : Option ℕ
  pub up : List ℕ
  pub task : Option (List ℕ)

abbrev pub empty_vector : Vector
empty_vector = record { status = Down; coordinator = None; halter = None; up = []; task = None }

-- the task that is kept over a crash, if tasks are
abbrev pub kept_task : Bool → Vector → Option (List ℕ)
kept_task keeps v = if keeps then v.task else None

-- what a crash leaves of it
abbrev pub crashed : Setup → Vector → Vector
crashed setup v = record empty_vector { task = kept_task setup.keeps v }

-- what a recovery makes of it
abbrev pub recovered : Setup → Vector → Vector
recovered setup v = record empty_vector { status = Election; task = kept_task setup.keeps v }

-- a vector as it is kept, with the number of partitions of a task that fits in
pub record StoredVector : Type 0 where
  pub vector : Vector
  pub room : ℕ

abbrev pub is_down : Status → Bool
is_down Down = true
is_down Election = false
is_down Reorganization = false
is_down Normal = false

abbrev pub is_election : Status → Bool
is_election Down = false
is_election Election = true
is_election Reorganization = false
is_election Normal = false

abbrev pub is_reorganization : Status → Bool
is_reorganization Down = false
is_reorganization Election = false
is_reorganization Reorganization = true
is_reorganization Normal = false

abbrev pub is_normal : Status → Bool
is_normal Down = false
is_normal Election = false
is_normal Reorganization = false
is_normal Normal = true

-- the node that is named is i
abbrev pub names : Option ℕ → ℕ → Bool
names None i = false
names (Some j) i = j == i
