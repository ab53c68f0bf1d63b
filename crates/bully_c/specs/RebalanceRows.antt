-- What is shown of a rebalance, of whether a group is stable, and of what a node owns.
use Rattle.std.specs.Prelude.{◌≡◌, ◌⊎◌, ◌+◌, ◌≤◌, ◌↔◌, ℕ, List, [], Bool, Option, Some, None, All, IsTrue, length, map}
use Rattle.std.specs.Prelude.{if◌then◌else◌}
use Rattle.bully_base.specs.Setup.{IsNode}
use Rattle.bully_calls.specs.declared.event.Event.{Event}
use Rattle.bully_replica.specs.RowReplica.{RowReplicaState}
use Rattle.bully_replica.specs.Replica.{ReplicaState}
use Rattle.bully_rows.specs.TraceText.{rows_text}
use Rattle.bully_rows.specs.declared.TheConstants.{ROWS_MAX}
use Rattle.bully_rows.specs.declared.trace.Row.{Row}
use Rattle.bully_rebalance.specs.Owning.{owned_by}
use Rattle.bully_rebalance.specs.Stable.{IsStable}
use Rattle.bully_rebalance.specs.Rebalancing.{rebalancing_of}
use Rattle.bully_rebalance.specs.declared.holding.Owned.{Owned}
use Rattle.bully_rebalance.specs.declared.rebalancing.RebalanceFault.{RebalanceFault}
use Rattle.bully_c.specs.Arguments.{IsCopied}
use Rattle.bully_c.specs.Judged.{IsSetOf}
use Rattle.bully_c.specs.OldTables.{AreOld, RefusesOld, old_given}
use Rattle.bully_c.specs.Replicas.{ShowsNode}
use Rattle.bully_c.specs.declared.status.TheConstants.{BAD_NODE, FULL, OK, OUT_OF_MEMORY}

abbrev pub rebalance_number : RebalanceFault → ℕ
rebalance_number RebalanceFault.Full = FULL
rebalance_number RebalanceFault.OutOfMemory = OUT_OF_MEMORY

-- the rows of these events
abbrev pub events_text : List Event → List ℕ
events_text events = rows_text (map Row.Event events)

-- all of them are nodes of the group
abbrev pub HasNodes : RowReplicaState → List ℕ → Type 0
HasNodes f numbers = All (IsNode f.replica.world.setup) numbers

-- the events that rebalance the group among these nodes, from the old table of these owners if the log has no plan
abbrev pub rebalancing_given : RowReplicaState → List ℕ → List ℕ → List Event
rebalancing_given f old set = rebalancing_of f.replica (old_given f.replica.world.setup.nodes old) set

-- the log has room for this many more events
abbrev pub HasRoom : RowReplicaState → ℕ → Type 0
HasRoom f count = (f.replica.world.events + count ≤ f.replica.world.setup.events_max) × (f.rows + count ≤ ROWS_MAX)

-- the rows that rebalance the group among the nodes that are named
pub record IsRebalanceOf (f : RowReplicaState) (numbers old text : List ℕ) : Type 0 where
  pub nodes : HasNodes f numbers
  pub old_is : AreOld f.replica.world.setup old
  pub set : List ℕ
  pub is : IsSetOf numbers set
  pub text_is : text ≡ events_text (rebalancing_given f old set)
  pub room : HasRoom f (length (rebalancing_given f old set))

-- the log has no room for them
pub record HasNoRoom (f : RowReplicaState) (numbers old : List ℕ) : Type 0 where
  pub set : List ℕ
  pub is : IsSetOf numbers set
  pub full : ¬ HasRoom f (length (rebalancing_given f old set))

-- why there are none
abbrev pub RefusesRebalance : RowReplicaState → List ℕ → List ℕ → ℕ → Type 0
RefusesRebalance f numbers old status =
    ((status ≡ BAD_NODE) × ¬ HasNodes f numbers)
    ⊎ (HasNodes f numbers × RefusesOld f.replica.world.setup old status)
    ⊎ (HasNodes f numbers × AreOld f.replica.world.setup old
    × (((status ≡ FULL) × HasNoRoom f numbers old) ⊎ (status ≡ OUT_OF_MEMORY)))

-- whether the group is stable among the nodes that are named, by a plan at or after this offset
pub record IsStableTold (r : ReplicaState) (numbers : List ℕ) (offset told : ℕ) : Type 0 where
  pub set : List ℕ
  pub is : IsSetOf numbers set
  pub is_stable : Bool
  pub decides : IsTrue is_stable ↔ IsStable r set offset
  pub told_is : told ≡ (if is_stable then 1 else 0)

abbrev pub IsStableShown : ReplicaState → List ℕ → ℕ → ℕ → ℕ → ℕ → Type 0
IsStableShown r numbers offset before status after =
    ((status ≡ OK) × All (IsNode r.world.setup) numbers × IsStableTold r numbers offset after)
    ⊎ ((status ≡ BAD_NODE) × (¬ All (IsNode r.world.setup) numbers) × (after ≡ before))

-- its token and its partitions, or 0 and none
abbrev pub token_or_none : Option Owned → ℕ
token_or_none None = 0
token_or_none (Some owned) = owned.token

abbrev pub partitions_or_none : Option Owned → List ℕ
partitions_or_none None = []
partitions_or_none (Some owned) = owned.partitions

abbrev pub IsOwnedCopied : Option Owned → List ℕ → ℕ → ℕ → List ℕ → ℕ → Type 0
IsOwnedCopied owned before status token after count =
    (token ≡ token_or_none owned) × IsCopied (partitions_or_none owned) before status after count

-- that is written, or an allocation failed, and nothing is
abbrev pub IsOwnedMade : Option Owned → ℕ → List ℕ → ℕ → ℕ → ℕ → List ℕ → ℕ → Type 0
IsOwnedMade owned token_before before count_before status token after count =
    IsOwnedCopied owned before status token after count
    ⊎ ((status ≡ OUT_OF_MEMORY) × (token ≡ token_before) × (after ≡ before) × (count ≡ count_before))

-- what the node of this number owns, by a plan at or after this offset
abbrev pub IsOwnedShown : ReplicaState → ℕ → ℕ → ℕ → List ℕ → ℕ → ℕ → ℕ → List ℕ → ℕ → Type 0
IsOwnedShown r node offset token_before before count_before status token after count =
    ShowsNode r.world.setup node status
    (IsOwnedMade (owned_by r node offset) token_before before count_before status token after count)
    ((token ≡ token_before) × (after ≡ before) × (count ≡ count_before))
