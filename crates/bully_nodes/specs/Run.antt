-- What a thread of a run does to its seat and its pass, turn by turn, what these come back as, and when a run ends
-- without its history.
use Rattle.std.specs.Prelude.{◌≡◌, ◌≢◌, ◌+◌, ◌⊎◌, ℕ, zero, suc, Bool, true, false, List, All, Option, Some, None}
use Rattle.std.specs.Prelude.{length}
use Rattle.bully_agree.specs.View.{shown}
use Rattle.bully_base.specs.Setup.{Setup}
use Rattle.bully_config.specs.Configuration.{Configuration}
use Rattle.bully_config.specs.declared.config.Fault.{Fault}
use Rattle.bully_group.specs.declared.locked.finish.FinishFault.{FinishFault}
use Rattle.bully_group.specs.Locked.{LockedState, view_in}
use Rattle.bully_group.specs.Seat.{SeatState, IsKnown, IsForeign}
use Rattle.bully_group.specs.declared.locked.step.StepFault.{StepFault}
use Rattle.bully_group.specs.Steps.{Records, IsStepFault, IsServeFault, MayServe}
use Rattle.bully_group.specs.Turns.{Waits, Resyncs, Fails}
use Rattle.bully_nodes.specs.declared.jobs.Role.{Role}
use Rattle.bully_nodes.specs.declared.running.NodesFault.{NodesFault}
use Rattle.bully_nodes.specs.declared.running.NodesFault.TheVariants.{Spawn, Finish, OutOfMemory}
use Rattle.bully_play.specs.Play.{IsDue}
use Rattle.bully_play.specs.Schedule.{AreLeft}
use Rattle.bully_play.specs.Turns.{idle_at, IsTurnOn, OperatesOn, ServesOrGoesOn}
use Rattle.bully_steps.specs.declared.driver.Choice.{Choice}
use Rattle.bully_steps.specs.Prepared.{prepared_from}
use Rattle.bully_steps.specs.Procedure.{state_of}
use Rattle.bully_steps.specs.ProcedureState.{ProcedureState}
use Rattle.bully_watch.specs.declared.entry.Entry.{Entry}
use Rattle.bully_calls.specs.declared.event.Event.{Event}
use Rattle.bully_world.specs.Serving.{IsServed, NoneServed}
use Rattle.bully_world.specs.Turn.{turn, step_event, procedure_after}
use Rattle.bully_world.specs.declared.turn.Next.{Next}
use Rattle.bully_world.specs.declared.turn.StepKind.{StepKind}

-- a seat, and how many entries are counted by the pass beside it
pub record SeatAndPass : Type 0 where
  pub seat : SeatState
  pub counted : ℕ

-- What a thread does goes by states of the group that come while it holds the lock. IsState says what holds of them:
-- for a group of L that is what the type `Locked` of L keeps

-- the group under its lock, and the seat and the pass of the thread that holds it
pub record Hold : Type 0 where
  pub group : LockedState
  pub own : SeatAndPass

-- in one hold of the lock, which finds some state of the group, this is done
abbrev pub InOneHold : (LockedState → Type 0) → (Hold → Hold → Type 0) → SeatAndPass → SeatAndPass → Type 0
InOneHold IsState does before after =
    (s s' : LockedState) × IsState s × does (record { group = s; own = before }) (record { group = s'; own = after })

-- the event is recorded, and the pass counts it
pub record Logs (e : Event) (before after : Hold) : Type 0 where
  pub records : Records before.group before.own.seat e after.group after.own.seat
  pub counted : after.own.counted ≡ before.own.counted + 1

-- the event is recorded, or refused
abbrev pub Applies : Event → Hold → Hold → Type 0
Applies e before after =
    Logs e before after ⊎ ((after ≡ before) × (fault : StepFault) × IsStepFault before.group before.own.seat e fault)

abbrev pub AppliesAt : (LockedState → Type 0) → Event → SeatAndPass → SeatAndPass → Type 0
AppliesAt IsState e before after = InOneHold IsState (Applies e) before after

-- no task makes another procedure of it: it isn't at Planning, or has its table
abbrev pub IsReady : ProcedureState → Type 0
IsReady h = (old : Option (List ℕ)) → prepared_from old h ≡ h

-- a procedure is prepared from the task that a view shows of its node, in some state of the group that the seat is
-- known in; or it stays as it is, since it is ready, or since the seat is foreign in some state of the group
abbrev pub PreparesAt : (LockedState → Type 0) → SeatAndPass → ProcedureState → ProcedureState → Type 0
PreparesAt IsState before h ready =
    ((s : LockedState) × IsState s × IsKnown s.history before.seat
    × (ready ≡ prepared_from (shown (view_in s) h.node).task h))
    ⊎ ((ready ≡ h)
    × (IsReady h ⊎ ((s : LockedState) × IsState s × (index : ℕ) × IsForeign s.history before.seat index)))

-- the serve of the node is refused, also since the seat isn't the node's
abbrev pub IsServeRefused : LockedState → SeatState → ℕ → StepFault → Type 0
IsServeRefused s seat node fault =
    IsServeFault s seat fault ⊎ ((fault ≡ StepFault.NotYours) × IsKnown s.history seat × (seat.actor ≢ node))

-- a node's turn ends with its serve, which runs the call of the lowest caller that waits for it, or is refused; or
-- there is no call to be served
abbrev pub Serves : Hold → ℕ → Bool → Hold → Type 0
Serves before node true after =
    ((caller : ℕ) × IsServed before.group.world before.own.seat.actor caller × Logs (Event.Run caller) before after)
    ⊎ ((after ≡ before) × (fault : StepFault) × IsServeRefused before.group before.own.seat node fault)
Serves before node false after =
    (after ≡ before) × MayServe before.group before.own.seat × NoneServed before.group.world before.own.seat.actor

-- the node serves, or else the event is recorded or refused
abbrev pub ServesOrApplies : Event → Hold → Hold → Type 0
ServesOrApplies e before after =
    ((node : ℕ) → Serves before node true after)
    ⊎ ((mid : Hold) × ((node : ℕ) → Serves before node false mid) × Applies e mid after)

-- the turn rule has the procedure rest, or be given up for the one that the world shows, or a fault comes
abbrev pub GoesNot : LockedState → SeatState → ProcedureState → ProcedureState → Type 0
GoesNot s seat h h' = Waits s seat h h' ⊎ Resyncs s seat h h' ⊎ ((fault : StepFault) × Fails s seat h h' fault)

-- the procedure takes the step that the turn rule offers and goes on by it, or no entry is added
abbrev pub Proceeds : Hold → ProcedureState → Hold → ProcedureState → Type 0
Proceeds before h after h' =
    ((kind : StepKind) × (logs : Logs (step_event kind h) before after)
    × (h' ≡ procedure_after kind logs.records.answer h)
    × (turn before.group.world h ≡ Next.Take kind))
    ⊎ ((after ≡ before) × GoesNot before.group before.own.seat h h')

-- in one hold of the lock the node serves, or else does what it chose
abbrev pub TakesAt : (LockedState → Type 0) → Choice → SeatAndPass → ProcedureState → SeatAndPass → ProcedureState
    → Type 0
TakesAt IsState choice before h after h' =
    InOneHold IsState (λ (held left : Hold). ServesOrGoesOn Applies Serves Proceeds choice held h left h') before after

-- the procedure that an actor holds; the operator holds none
abbrev pub procedure_of : Role → Option ProcedureState
procedure_of (Role.Operator left) = None
procedure_of (Role.Node p) = Some (state_of p)

-- before the turn of this number the operator has the configuration's faults of the turns to come, and a node's
-- procedure is of its setup
abbrev pub IsRoleOf : Configuration → ℕ → Role → Type 0
IsRoleOf c number (Role.Operator left) = AreLeft c.faults number left
IsRoleOf c number (Role.Node p) = (state_of p).setup ≡ c.setup

-- what the actor of this number holds at first
abbrev pub first_of : Setup → ℕ → Option ProcedureState
first_of setup zero = None
first_of setup (suc i) = Some (idle_at setup (suc i))

-- an actor's turn of this number: the operator's takes the configuration's faults of that turn, each in a hold of its
-- own. A node's is the turn of the procedure that it holds, with the configuration's period: once that is prepared, all
-- of it is one hold of the lock
abbrev pub IsActorsTurn : (LockedState → Type 0) → Configuration → ℕ → SeatAndPass → Option ProcedureState → SeatAndPass
    → Option ProcedureState → Type 0
IsActorsTurn IsState c number before None after None = OperatesOn (AppliesAt IsState) number c.faults before after
IsActorsTurn IsState c number before (Some h) after (Some h') =
    IsTurnOn (PreparesAt IsState) (TakesAt IsState) c.period number before h after h'
IsActorsTurn IsState c number before None after (Some h') = ⊥
IsActorsTurn IsState c number before (Some h) after None = ⊥

-- so many turns of an actor, the first of which has this number
abbrev pub ActorsTurns : (LockedState → Type 0) → Configuration → ℕ → ℕ → SeatAndPass → Option ProcedureState
    → SeatAndPass → Option ProcedureState → Type 0
ActorsTurns IsState c zero number before h after h' = (after ≡ before) × (h' ≡ h)
ActorsTurns IsState c (suc more) number before h after h' =
    (mid : SeatAndPass) × (between : Option ProcedureState) × IsActorsTurn IsState c number before h mid between
    × ActorsTurns IsState c more (number + 1) mid between after h'

-- the crashes and recoveries in a seat's log are faults of the configuration
abbrev pub HasDueLog : List Fault → SeatState → Type 0
HasDueLog faults seat = All (λ (told : ℕ × Entry). IsDue faults told.1.event) seat.log

-- what the thread of actor i gives back: its own seat, and a pass that counts its log
pub record IsGivenBack (faults : List Fault) (i : ℕ) (h : SeatAndPass) : Type 0 where
  pub actor : h.seat.actor ≡ i
  pub due : HasDueLog faults h.seat
  pub counted : h.counted ≡ length h.seat.log

-- the fault of a finish is told as itself, and its want of memory as the run's
abbrev pub fault_of_finish : FinishFault → NodesFault
fault_of_finish FinishFault.OutOfMemory = OutOfMemory
fault_of_finish fault = Finish fault

-- the finish's want of memory is told as such
abbrev pub IsNodesFault : NodesFault → Type 0
IsNodesFault Spawn = Unit {0}
IsNodesFault (Finish fault) = fault ≢ FinishFault.OutOfMemory
IsNodesFault OutOfMemory = Unit {0}
