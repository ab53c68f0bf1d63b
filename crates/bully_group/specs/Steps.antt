-- What a step of a locked group does, and when each of its faults comes.
use Rattle.std.specs.Prelude.{◌≡◌, ◌≢◌, ◌<◌, ◌++◌, ℕ, Bool, true, false, [], ◌∷◌, length, Some, None, Result, Ok, Err}
use Rattle.bully_calls.specs.declared.call.Answer.{Answer}
use Rattle.bully_watch.specs.declared.entry.Entry.{Entry}
use Rattle.bully_watch.specs.History.{whose}
use Rattle.bully_calls.specs.declared.event.Event.{Event}
use Rattle.bully_world.specs.Serving.{IsServed, NoneServed}
use Rattle.bully_world.specs.State.{world_of, cause_in, RaisesGenerations}
use Rattle.bully_world.specs.Step.{Step}
use Rattle.bully_group.specs.declared.locked.shown.ViewFault.{ViewFault}
use Rattle.bully_group.specs.declared.locked.step.StepFault.{StepFault}
use Rattle.bully_group.specs.declared.locked.step.StepFault.TheVariants.{Foreign, NotYours, Refused, OutOfMemory}
use Rattle.bully_group.specs.Locked.{LockedState}
use Rattle.bully_group.specs.Seat.{SeatState, IsKnown, IsForeign}

-- the entry of the event that the seat's actor takes
abbrev pub entry_of : SeatState → Event → Answer → Entry
entry_of seat e answer = record { actor = seat.actor; event = e; answer = answer }

-- One entry more: the event is one step of the world, with the answer that it names, and raises generations as its kind
-- does; the entry is the last of the history and, beside its index, of the seat. Nothing of it is published yet
pub record Records (s : LockedState) (seat : SeatState) (e : Event) (s' : LockedState)
    (seat' : SeatState) : Type 0 where
  pub answer : Answer
  pub step : Step s.world.setup (world_of s.world) e (world_of s'.world) answer
  pub history : s'.history ≡ s.history ++ entry_of seat e answer ∷ []
  pub log : seat'.log ≡ seat.log ++ (length s.history, entry_of seat e answer) ∷ []
  pub actor : seat'.actor ≡ seat.actor
  pub setup : s'.world.setup ≡ s.world.setup
  pub publisher : s'.publisher ≡ s.publisher
  pub generations : RaisesGenerations e s.world s'.world

-- the event is the seat's actor's in the group's world
abbrev pub IsYours : LockedState → SeatState → Event → Type 0
IsYours s seat e = whose (world_of s.world) e ≡ Some seat.actor

-- nothing stands against the step: the seat is known, the event its actor's, and there is no cause
pub record IsAllowed (s : LockedState) (seat : SeatState) (e : Event) : Type 0 where
  pub known : IsKnown s.history seat
  pub yours : IsYours s seat e
  pub no_cause : cause_in s.world e ≡ None

-- when each fault of a step comes, in their order
abbrev pub IsStepFault : LockedState → SeatState → Event → StepFault → Type 0
IsStepFault s seat e (Foreign index) = IsForeign s.history seat index
IsStepFault s seat e NotYours = IsKnown s.history seat × (whose (world_of s.world) e ≢ Some seat.actor)
IsStepFault s seat e (Refused why) = IsKnown s.history seat × IsYours s seat e × (cause_in s.world e ≡ Some why)
IsStepFault s seat e OutOfMemory = IsAllowed s seat e

-- what each fault that is left to the world tells of it
abbrev pub IsApplyFault : LockedState → Event → StepFault → Type 0
IsApplyFault s e (Foreign index) = ⊥
IsApplyFault s e NotYours = ⊥
IsApplyFault s e (Refused why) = cause_in s.world e ≡ Some why
IsApplyFault s e OutOfMemory = cause_in s.world e ≡ None

-- a fault that comes after those of the seat
abbrev pub IsLateFault : StepFault → Type 0
IsLateFault (Foreign index) = ⊥
IsLateFault NotYours = ⊥
IsLateFault (Refused why) = Unit {0}
IsLateFault OutOfMemory = Unit {0}

-- the seat is known, and a node's
abbrev pub MayServe : LockedState → SeatState → Type 0
MayServe s seat = IsKnown s.history seat × (0 < seat.actor)

-- the run of the call that is to be served, which nothing stands against
abbrev pub Serves : LockedState → SeatState → LockedState → SeatState → Type 0
Serves s seat s' seat' =
    MayServe s seat
    × (caller : ℕ)
    × IsServed s.world seat.actor caller
    × (cause_in s.world (Event.Run caller) ≡ None)
    × Records s seat (Event.Run caller) s' seat'

-- when each fault of a serve comes, in their order
abbrev pub IsServeFault : LockedState → SeatState → StepFault → Type 0
IsServeFault s seat (Foreign index) = IsForeign s.history seat index
IsServeFault s seat NotYours = IsKnown s.history seat × (seat.actor ≡ 0)
IsServeFault s seat (Refused why) =
    MayServe s seat
    × (caller : ℕ)
    × IsServed s.world seat.actor caller
    × (cause_in s.world (Event.Run caller) ≡ Some why)
IsServeFault s seat OutOfMemory =
    MayServe s seat
    × (caller : ℕ)
    × IsServed s.world seat.actor caller
    × (cause_in s.world (Event.Run caller) ≡ None)

-- what a serve that is no fault tells: whether a call was served
abbrev pub IsServe : LockedState → SeatState → LockedState → SeatState → Bool → Type 0
IsServe s seat s' seat' true = Serves s seat s' seat'
IsServe s seat s' seat' false =
    MayServe s seat × NoneServed s.world seat.actor × (s' ≡ s) × (seat' ≡ seat)

-- an entry was added
abbrev pub is_served : Result Bool StepFault → Bool
is_served (Ok served) = served
is_served (Err fault) = false

-- when each fault of a view comes, in their order
abbrev pub IsViewFault : LockedState → SeatState → ViewFault → Type 0
IsViewFault s seat (ViewFault.Foreign index) = IsForeign s.history seat index
IsViewFault s seat ViewFault.OutOfMemory = IsKnown s.history seat
