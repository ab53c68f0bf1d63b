-- What a procedure is: one of nine typed states, each seen by what it holds.
use Rattle.std.specs.Prelude.{[], Some, None}
use Rattle.bully_steps.specs.declared.point.Point.{Point}
use Rattle.bully_steps.specs.declared.procedure.Procedure.{Procedure}
use Rattle.bully_steps.specs.declared.states.halting.Halted.{Halted}
use Rattle.bully_steps.specs.ProcedureState.{ProcedureState}
use Rattle.bully_steps.specs.States.{CallingState, idle, planning, planned, state_at}

abbrev pub halting : CallingState Halted → ProcedureState
halting s = state_at s.identity (Point.Halting s.held.next) s.held.up None s.awaits

abbrev pub state_of : Procedure → ProcedureState
state_of (Procedure.Idle s) = idle s
state_of (Procedure.Asking s) = state_at s.identity (Point.Asking s.held.next) [] None s.awaits
state_of (Procedure.Halting s) = halting s
state_of (Procedure.Announcing s) = state_at s.identity (Point.Announcing s.held.rest) s.held.up None s.awaits
state_of (Procedure.Planning s) = planning s
state_of (Procedure.Planned s) = planned s
state_of (Procedure.Readying s) = state_at s.identity (Point.Readying s.held.rest) [] None s.awaits
state_of (Procedure.Checking s) = state_at s.identity (Point.Checking s.held.callee) [] None s.awaits
state_of (Procedure.Inquiring s) = state_at s.identity Point.Inquiring [] (Some s.held.coordinator) s.awaits
