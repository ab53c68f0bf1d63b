-- When a group may be finished, and when each fault comes.
use Rattle.std.specs.Prelude.{◌≡◌, ◌≢◌, ◌+◌, ◌<◌, ◌≤◌, ◌==◌, ℕ, Bool, false, List, length, map, All, Some, count_by}
use Rattle.std.specs.Prelude.{slice_get, slice_index_or}
use Rattle.std.specs.List.{IsDistinct}
use Rattle.bully_base.specs.declared.TheConstants.{NODES_MAX}
use Rattle.bully_watch.specs.declared.entry.Entry.{Entry}
use Rattle.bully_watch.specs.History.{part}
use Rattle.bully_group.specs.declared.locked.finish.FinishFault.{FinishFault}
use Rattle.bully_group.specs.declared.locked.finish.FinishFault.TheVariants.{SeatCount, Stranger, Differs, OutOfMemory}
use Rattle.bully_group.specs.Locked.{LockedState}
use Rattle.bully_group.specs.Seat.{SeatState, actor_of}

-- there are as many seats and as many passes as the operator and the nodes
abbrev pub AreAll : ℕ → List SeatState → ℕ → Type 0
AreAll nodes seats passes = (length seats ≡ nodes + 1) × (passes ≡ nodes + 1)

-- no two seats are of one actor, and no actor is above the last node
pub record AreOfGroup (nodes : ℕ) (seats : List SeatState) : Type 0 where
  pub distinct : IsDistinct (λ a b. a == b) (map actor_of seats)
  pub within : All (λ s. s.actor ≤ nodes) seats

-- no seat is of an actor that is taken
abbrev pub AreFree : List Bool → List SeatState → Type 0
AreFree taken seats = All (λ s. slice_index_or taken s.actor false ≡ false) seats

-- how many entries of the history are the actor's
abbrev pub entries_of : ℕ → List Entry → ℕ
entries_of actor history = count_by (λ e. e.actor == actor) history

-- the counts have at each actor's place how many entries of the history are its
abbrev pub AreCounts : List Entry → List ℕ → Type 0
AreCounts history counts = (actor : ℕ) → actor ≤ NODES_MAX → slice_index_or counts actor 0 ≡ entries_of actor history

-- each entry of the log stands in the history at its index
abbrev pub AllStand : List Entry → List (ℕ × Entry) → Type 0
AllStand history log = All (λ p. slice_get history p.0 ≡ Some p.1) log

-- the seat's log is its actor's part of the history
abbrev pub HasPart : List Entry → SeatState → Type 0
HasPart history s = s.log ≡ part s.actor history

-- the lowest actor of the seats whose log isn't its part of the history
pub record IsLowestDiffering (history : List Entry) (seats : List SeatState) (actor : ℕ) : Type 0 where
  pub at : ℕ
  pub seat : SeatState
  pub there : slice_get seats at ≡ Some seat
  pub own : seat.actor ≡ actor
  pub differs : seat.log ≢ part actor history
  pub lower : All (λ s. s.actor < actor → HasPart history s) seats

-- nothing stands against the finish: seats and passes are all there, the seats are the group's, and have their parts
abbrev pub CanFinish : LockedState → List SeatState → ℕ → Type 0
CanFinish s seats passes =
    AreAll s.world.setup.nodes seats passes
    × AreOfGroup s.world.setup.nodes seats
    × All (HasPart s.history) seats

-- when each fault of a finish comes, in their order
abbrev pub IsFinishFault : LockedState → List SeatState → ℕ → FinishFault → Type 0
IsFinishFault s seats passes SeatCount = AreAll s.world.setup.nodes seats passes → ⊥
IsFinishFault s seats passes Stranger =
    AreAll s.world.setup.nodes seats passes × (AreOfGroup s.world.setup.nodes seats → ⊥)
IsFinishFault s seats passes (Differs actor) =
    AreAll s.world.setup.nodes seats passes
    × AreOfGroup s.world.setup.nodes seats
    × IsLowestDiffering s.history seats actor
IsFinishFault s seats passes OutOfMemory = CanFinish s seats passes

-- the entry at this index of the history stands in the log of one seat, and in no other's
pub record IsInOneLog (seats : List SeatState) (index : ℕ) (e : Entry) : Type 0 where
  pub at : ℕ
  pub seat : SeatState
  pub there : slice_get seats at ≡ Some seat
  pub place : ℕ
  pub stands : slice_get seat.log place ≡ Some (index, e)
  pub only : (j : ℕ) (s : SeatState) (k : ℕ) → slice_get seats j ≡ Some s → slice_get s.log k ≡ Some (index, e) → j ≡ at

-- every entry stands in one log
abbrev pub EachInOneLog : List Entry → List SeatState → Type 0
EachInOneLog history seats = (index : ℕ) (e : Entry) → slice_get history index ≡ Some e → IsInOneLog seats index e
