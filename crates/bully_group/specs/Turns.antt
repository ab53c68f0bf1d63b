-- What the turn of a node at a locked group does, and when each of its faults comes: the node serves, or else the
-- procedure that it holds has its turn.
use Rattle.std.specs.Prelude.{◌≡◌, ◌≢◌, ◌<◌, ◌≤◌, ◌⊎◌, Bool, true, false, Result, Ok, Err}
use Rattle.bully_steps.specs.ProcedureState.{ProcedureState}
use Rattle.bully_calls.specs.declared.event.Refused.{Refused as Cause}
use Rattle.bully_world.specs.declared.turn.Next.{Next}
use Rattle.bully_world.specs.declared.turn.StepKind.{StepKind}
use Rattle.bully_world.specs.Serving.{NoneServed}
use Rattle.bully_world.specs.Turn.{turn, step_event, procedure_after, procedure_in, is_in_step}
use Rattle.bully_group.specs.declared.locked.step.StepFault.{StepFault}
use Rattle.bully_group.specs.declared.locked.turn.NodeTurn.{NodeTurn}
use Rattle.bully_group.specs.declared.locked.turn.NodeTurn.TheVariants.{Served, Went, Waiting, Resynced}
use Rattle.bully_group.specs.Locked.{LockedState}
use Rattle.bully_group.specs.Seat.{SeatState, IsKnown, IsForeign}
use Rattle.bully_group.specs.Steps.{Records, Serves, IsServeFault}

-- the seat is known, and that of the procedure's node
abbrev pub MayTurn : LockedState → SeatState → ProcedureState → Type 0
MayTurn s seat h = IsKnown s.history seat × (seat.actor ≡ h.node)

-- the procedure takes the step that the turn rule offers, which is recorded, and goes on by it
abbrev pub Goes : LockedState → SeatState → ProcedureState → LockedState → SeatState → ProcedureState → Type 0
Goes s seat h s' seat' h' =
    MayTurn s seat h
    × (kind : StepKind)
    × (turn s.world h ≡ Next.Take kind)
    × (s.world.events < s.world.setup.events_max)
    × (r : Records s seat (step_event kind h) s' seat')
    × (h' ≡ procedure_after kind r.answer h)

-- when each fault of a turn comes, in their order
abbrev pub IsTurnFault : LockedState → SeatState → ProcedureState → StepFault → Type 0
IsTurnFault s seat h (StepFault.Foreign index) = IsForeign s.history seat index
IsTurnFault s seat h StepFault.NotYours = IsKnown s.history seat × (seat.actor ≢ h.node)
IsTurnFault s seat h (StepFault.Refused why) =
    MayTurn s seat h
    × (kind : StepKind)
    × (turn s.world h ≡ Next.Take kind)
    × (s.world.setup.events_max ≤ s.world.events)
    × (why ≡ Cause.Full)
IsTurnFault s seat h StepFault.OutOfMemory =
    MayTurn s seat h × (kind : StepKind) × (turn s.world h ≡ Next.Take kind)
    × (s.world.events < s.world.setup.events_max)

-- the turn rule has it rest, and it is as it was
abbrev pub Waits : LockedState → SeatState → ProcedureState → ProcedureState → Type 0
Waits s seat h h' = MayTurn s seat h × (turn s.world h ≡ Next.Rest) × (h' ≡ h)

-- it isn't in step, and is given up for the one that the world shows
abbrev pub Resyncs : LockedState → SeatState → ProcedureState → ProcedureState → Type 0
Resyncs s seat h h' = MayTurn s seat h × (turn s.world h ≡ Next.Resync) × (h' ≡ procedure_in s.world h.node)

-- this fault comes, and it is as it was
abbrev pub Fails : LockedState → SeatState → ProcedureState → ProcedureState → StepFault → Type 0
Fails s seat h h' fault = IsTurnFault s seat h fault × (h' ≡ h)

-- the seat's node serves no call: none waits for it, or it is Down
abbrev pub ServesNone : LockedState → SeatState → Type 0
ServesNone s seat = NoneServed s.world seat.actor

-- what the turn of the procedure does, where the node served no call
abbrev pub TurnsBy : LockedState → SeatState → ProcedureState → LockedState → SeatState → ProcedureState → NodeTurn
    → Type 0
TurnsBy s seat h s' seat' h' Served = ⊥
TurnsBy s seat h s' seat' h' Went = Goes s seat h s' seat' h'
TurnsBy s seat h s' seat' h' Waiting = Waits s seat h h' × (s' ≡ s) × (seat' ≡ seat)
TurnsBy s seat h s' seat' h' Resynced = Resyncs s seat h h' × (s' ≡ s) × (seat' ≡ seat)

-- the node serves, and its procedure is as it was; or it serves no call, and the procedure has its turn
abbrev pub IsNodeTurn : LockedState → SeatState → ProcedureState → LockedState → SeatState → ProcedureState → NodeTurn
    → Type 0
IsNodeTurn s seat h s' seat' h' Served = MayTurn s seat h × Serves s seat s' seat' × (h' ≡ h)
IsNodeTurn s seat h s' seat' h' Went = ServesNone s seat × TurnsBy s seat h s' seat' h' Went
IsNodeTurn s seat h s' seat' h' Waiting = ServesNone s seat × TurnsBy s seat h s' seat' h' Waiting
IsNodeTurn s seat h s' seat' h' Resynced = ServesNone s seat × TurnsBy s seat h s' seat' h' Resynced

-- this fault is that of the serve or, where no call is served, that of the turn
abbrev pub IsServeOrTurnFault : LockedState → SeatState → ProcedureState → StepFault → Type 0
IsServeOrTurnFault s seat h fault =
    MayTurn s seat h × (IsServeFault s seat fault ⊎ (ServesNone s seat × IsTurnFault s seat h fault))

-- when each fault of a node's whole turn comes, in their order
abbrev pub IsNodeTurnFault : LockedState → SeatState → ProcedureState → StepFault → Type 0
IsNodeTurnFault s seat h (StepFault.Foreign index) = IsForeign s.history seat index
IsNodeTurnFault s seat h StepFault.NotYours = IsKnown s.history seat × (seat.actor ≢ h.node)
IsNodeTurnFault s seat h (StepFault.Refused why) = IsServeOrTurnFault s seat h (StepFault.Refused why)
IsNodeTurnFault s seat h StepFault.OutOfMemory = IsServeOrTurnFault s seat h StepFault.OutOfMemory

-- an entry was added
abbrev pub adds_entry : Result NodeTurn StepFault → Bool
adds_entry (Ok Served) = true
adds_entry (Ok Went) = true
adds_entry (Ok Waiting) = false
adds_entry (Ok Resynced) = false
adds_entry (Err fault) = false

-- unless the node served, the procedure that it holds is in step then
abbrev pub LeavesInStep : LockedState → ProcedureState → NodeTurn → Type 0
LeavesInStep s h Served = Unit {0}
LeavesInStep s h Went = is_in_step s.world h ≡ true
LeavesInStep s h Waiting = is_in_step s.world h ≡ true
LeavesInStep s h Resynced = is_in_step s.world h ≡ true
