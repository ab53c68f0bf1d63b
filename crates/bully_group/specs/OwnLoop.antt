-- What a turn tells that a caller takes in a loop of its own, by value.
use Rattle.std.specs.Prelude.{◌≡◌, Bool, true, false}
use Rattle.bully_steps.specs.Procedure.{state_of}
use Rattle.bully_steps.specs.ProcedureState.{ProcedureState}
use Rattle.bully_world.specs.Turn.{is_in_step}
use Rattle.bully_group.specs.declared.locked.own_loop.Turn.{Turn}
use Rattle.bully_group.specs.declared.locked.own_loop.Turn.TheVariants.{Went, Waiting, Resynced, Fault}
use Rattle.bully_group.specs.declared.locked.step.StepFault.{StepFault}
use Rattle.bully_group.specs.Locked.{LockedState}

-- the procedure that a turn hands back
abbrev pub handed_back : Turn → ProcedureState
handed_back (Went p) = state_of p
handed_back (Waiting p) = state_of p
handed_back (Resynced p) = state_of p
handed_back (Fault p fault) = state_of p

abbrev pub IfWent : Turn → (ProcedureState → Type 0) → Type 0
IfWent (Went p) holds = holds (state_of p)
IfWent _ holds = Unit {0}

abbrev pub IfWaiting : Turn → (ProcedureState → Type 0) → Type 0
IfWaiting (Waiting p) holds = holds (state_of p)
IfWaiting _ holds = Unit {0}

abbrev pub IfResynced : Turn → (ProcedureState → Type 0) → Type 0
IfResynced (Resynced p) holds = holds (state_of p)
IfResynced _ holds = Unit {0}

abbrev pub IfFault : Turn → (ProcedureState → StepFault → Type 0) → Type 0
IfFault (Fault p fault) holds = holds (state_of p) fault
IfFault _ holds = Unit {0}

-- an entry was added
abbrev pub is_went : Turn → Bool
is_went (Went p) = true
is_went _ = false

-- it is no fault
abbrev pub is_fault : Turn → Bool
is_fault (Fault p fault) = true
is_fault _ = false

-- unless it is a fault, the procedure that it hands back is in step
abbrev pub EndsInStep : LockedState → Turn → Type 0
EndsInStep s t = is_fault t ≡ false → is_in_step s.world (handed_back t) ≡ true
