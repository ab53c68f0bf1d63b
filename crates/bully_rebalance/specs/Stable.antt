-- A group that is stable among the live nodes.
use Rattle.std.specs.Prelude.{◌≡◌, ◌≢◌, ◌<◌, ℕ, List, [], Contains, Option, Some, None}
use Rattle.bully_agree.specs.Fencing.{Planned}
use Rattle.bully_base.specs.NodeSet.{highest_of}
use Rattle.bully_base.specs.Setup.{IsNode, Setup}
use Rattle.bully_base.specs.declared.node.Status.TheVariants.{Down, Normal}
use Rattle.bully_handlers.specs.Vector.{Vector}
use Rattle.bully_replica.specs.Replica.{ReplicaState}
use Rattle.bully_work.specs.Working.{GivesTo}
use Rattle.bully_world.specs.State.{world_of}
use Rattle.bully_world.specs.World.{World, vector}

-- node i, with this vector: a live node is Normal under the highest live node, and any other is Down
pub record IsStableIn (live : List ℕ) (i : ℕ) (v : Vector) : Type 0 where
  pub normal : Contains live i → v.status ≡ Normal
  pub led : Contains live i → v.coordinator ≡ highest_of live
  pub down : (Contains live i → ⊥) → v.status ≡ Down

-- all nodes to which the table gives a partition are live
abbrev pub OwnersAreLive : List ℕ → List ℕ → Type 0
OwnersAreLive table live = (k owner : ℕ) → GivesTo table k owner → Contains live owner

abbrev pub AllStable : World → Setup → List ℕ → Type 0
AllStable w setup live = (i : ℕ) → IsNode setup i → IsStableIn live i (vector w i)

-- there is a last plan, at or after this offset, and its owners are live
abbrev pub IsServed : Option Planned → List ℕ → ℕ → Type 0
IsServed None live offset = ⊥
IsServed (Some p) live offset = (offset < p.token) × OwnersAreLive p.table live

-- all nodes are stable, and if any is live, the last plan is at or after this offset, with live owners
pub record IsStable (r : ReplicaState) (live : List ℕ) (offset : ℕ) : Type 0 where
  pub nodes : AllStable (world_of r.world) r.world.setup live
  pub plan : live ≢ [] → IsServed r.last live offset
