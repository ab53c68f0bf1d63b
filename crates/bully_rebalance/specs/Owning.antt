-- What a node owns, by what a replica has learned.
use Rattle.std.specs.Prelude.{◌≡◌, ◌↔◌, ◌<◌, ◌≤◌, ◌&&◌, ◌==◌, if◌then◌else◌, ℕ, suc, List, [], ◌∷◌, Option, Some, None}
use Rattle.std.specs.Prelude.{Contains, nat_lt}
use Rattle.bully_agree.specs.Fencing.{Planned}
use Rattle.bully_base.specs.Setup.{Setup}
use Rattle.bully_calls.specs.declared.event.Event.{Event}
use Rattle.bully_handlers.specs.Vector.{is_normal}
use Rattle.bully_replica.specs.Replica.{IsLogOf, ReplicaState, token_of}
use Rattle.bully_rebalance.specs.declared.holding.Owned.{Owned}
use Rattle.bully_work.specs.Store.{IsOwner}
use Rattle.bully_work.specs.Working.{GivesTo}
use Rattle.bully_world.specs.State.{world_of}
use Rattle.bully_world.specs.World.{vector}

-- the partitions of node i in a table whose first partition is k, in rising order
abbrev pub partitions_from : ℕ → List ℕ → ℕ → List ℕ
partitions_from k [] i = []
partitions_from k (owner ∷ table) i = if owner == i then k ∷ partitions_from (suc k) table i else
    partitions_from (suc k) table i

abbrev pub partitions_of : List ℕ → ℕ → List ℕ
partitions_of table i = partitions_from 0 table i

-- what a node owns that has this token and these partitions: nothing if there are no partitions
abbrev pub owned_with : ℕ → List ℕ → Option Owned
owned_with token [] = None
owned_with token (k ∷ partitions) = Some (record { token = token; partitions = k ∷ partitions })

-- what node i owns by the last plan
abbrev pub owned_in : Option Planned → ℕ → Option Owned
owned_in None i = None
owned_in (Some p) i = owned_with p.token (partitions_of p.table i)

-- by which token node i's process may work, and on which partitions, if on any: the node is Normal, and the last plan
-- is at or after this offset
abbrev pub owned_by : ReplicaState → ℕ → ℕ → Option Owned
owned_by r i offset = if is_normal (vector (world_of r.world) i).status && nat_lt offset (token_of r.last)
    then owned_in r.last i else None

abbrev pub token_in : Owned → ℕ
token_in owned = owned.token

-- by these events node i is an owner, its plan has this token and is at or after the offset, and it gives the node some
-- partition
pub record OwnsBy (setup : Setup) (events : List Event) (i offset by : ℕ) : Type 0 where
  pub plan : Planned
  pub owner : IsOwner setup events i plan
  pub token : plan.token ≡ by
  pub behind : offset < by
  pub some : (k : ℕ) × GivesTo plan.table k i

-- that holds whatever log leads to the replica
abbrev pub OwnsBehind : ReplicaState → ℕ → ℕ → ℕ → Type 0
OwnsBehind r i offset token = (events : List Event) → IsLogOf r events → OwnsBy r.world.setup events i offset token

-- whatever log leads to the replica, no plan at or after the offset by which node i is an owner gives it any partition
abbrev pub OwnsNothingBehind : ReplicaState → ℕ → ℕ → Type 0
OwnsNothingBehind r i offset =
    (events : List Event) (p : Planned) (k : ℕ) → IsLogOf r events → IsOwner r.world.setup events i p → offset < p.token
    → GivesTo p.table k i → ⊥

-- whatever log leads to the replica, a plan by which node i is an owner gives it these partitions, and no others
abbrev pub OwnsExactly : ReplicaState → ℕ → List ℕ → Type 0
OwnsExactly r i partitions =
    (events : List Event) (p : Planned) → IsLogOf r events → IsOwner r.world.setup events i p → (k : ℕ)
    → Contains partitions k ↔ GivesTo p.table k i

-- each is greater than the one before it, and the first is at least `least`
abbrev pub IsRisingFrom : ℕ → List ℕ → Type 0
IsRisingFrom least [] = Unit {0}
IsRisingFrom least (k ∷ ks) = (least ≤ k) × IsRisingFrom (suc k) ks
