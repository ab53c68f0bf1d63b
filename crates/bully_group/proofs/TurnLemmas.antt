-- A node's whole turn from its two parts: the serve, and the turn of the procedure.
use Rattle.std.proofs.Common.{◌≡◌, Result, Ok, Err, IfOk, IfErr, inl, inr, subst}
use Rattle.bully_steps.specs.ProcedureState.{ProcedureState}
use Rattle.bully_group.specs.declared.locked.turn.NodeTurn.{NodeTurn}
use Rattle.bully_group.specs.declared.locked.turn.NodeTurn.TheVariants.{Served, Went, Waiting, Resynced}
use Rattle.bully_group.specs.declared.locked.step.StepFault.{StepFault}
use Rattle.bully_group.specs.Locked.{LockedState}
use Rattle.bully_group.specs.Seat.{SeatState}
use Rattle.bully_group.specs.Steps.{IsServeFault, IsLateFault}
use Rattle.bully_group.specs.Turns.{MayTurn, IsTurnFault, ServesNone, TurnsBy, IsNodeTurn, IsNodeTurnFault}

-- a fault of the serve
pub serve_fault : (s : LockedState) (seat : SeatState) (h : ProcedureState) (fault : StepFault) → MayTurn s seat h → IsLateFault fault → IsServeFault s seat fault → IsNodeTurnFault s seat h fault
serve_fault s seat h (StepFault.Foreign index) may late is = is
serve_fault s seat h StepFault.NotYours may late is = absurd late
serve_fault s seat h (StepFault.Refused why) may late is = (may, inl is)
serve_fault s seat h StepFault.OutOfMemory may late is = (may, inl is)

-- a fault of the turn
turn_fault : (s : LockedState) (seat : SeatState) (h : ProcedureState) (fault : StepFault) → MayTurn s seat h → ServesNone s seat → IsTurnFault s seat h fault → IsNodeTurnFault s seat h fault
turn_fault s seat h (StepFault.Foreign index) may none is = is
turn_fault s seat h StepFault.NotYours may none is = is
turn_fault s seat h (StepFault.Refused why) may none is = (may, inr (none, is))
turn_fault s seat h StepFault.OutOfMemory may none is = (may, inr (none, is))

-- no call is served
none_served : (s : LockedState) (seat : SeatState) (h : ProcedureState) (s' : LockedState) (seat' : SeatState) (h' : ProcedureState) (t : NodeTurn) → ServesNone s seat → TurnsBy s seat h s' seat' h' t → IsNodeTurn s seat h s' seat' h' t
none_served s seat h s' seat' h' Served none turns = absurd turns
none_served s seat h s' seat' h' Went none turns = (none, turns)
none_served s seat h s' seat' h' Waiting none turns = (none, turns)
none_served s seat h s' seat' h' Resynced none turns = (none, turns)

-- Where no call is served, all is as it was before the turn of the procedure
module _ (s before : LockedState) (seat held : SeatState) (h : ProcedureState) (same : before ≡ s) (same_seat : held ≡ seat) (none : ServesNone s seat) where
  pub turn_alone : (s' : LockedState) (seat' : SeatState) (h' : ProcedureState) (result : Result NodeTurn StepFault) → IfOk result (TurnsBy before held h s' seat' h') → IfOk result (IsNodeTurn s seat h s' seat' h')
  turn_alone s' seat' h' (Ok t) turns =
      let here : TurnsBy s held h s' seat' h' t = subst (λ (z : LockedState). TurnsBy z held h s' seat' h' t) same turns in
      none_served s seat h s' seat' h' t none (subst (λ (z : SeatState). TurnsBy s z h s' seat' h' t) same_seat here)
  turn_alone s' seat' h' (Err fault) turns = tt

  pub fault_alone : (result : Result NodeTurn StepFault) → MayTurn s seat h → IfErr result (IsTurnFault before held h) → IfErr result (IsNodeTurnFault s seat h)
  fault_alone (Ok t) may is = tt
  fault_alone (Err fault) may is =
      let here : IsTurnFault s held h fault = subst (λ (z : LockedState). IsTurnFault z held h fault) same is in
      turn_fault s seat h fault may none (subst (λ (z : SeatState). IsTurnFault s z h fault) same_seat here)
