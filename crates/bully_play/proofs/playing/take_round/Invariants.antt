use Rattle.std.proofs.Common.{◌≡◌, ◌++◌, All, List, map, take, drop}
use Rattle.bully_play.specs.Recording.{RecordingState, IsRecorded}
use Rattle.bully_play.specs.Turns.{TakeTurns}
use Rattle.bully_steps.specs.ProcedureState.{ProcedureState}
use Rattle.bully_steps.specs.Procedure.{state_of}
use Rattle.bully_play.proofs.playing.take_round.Given as goal

-- what the rest comes to from here, all turns come to from the start
abbrev pub invariant-loop-procedure : goal.invariant-loop-procedure
invariant-loop-procedure l = record {
  turns : (after : RecordingState) (hs' : List ProcedureState) → TakeTurns l.config.period l.turn l.recording (map state_of (drop l.procedure-index l.procedures)) after hs'
      → TakeTurns l.config.period l.turn l.initial.recording (map state_of l.fn.procedures) after (map state_of (take l.procedure-index l.procedures) ++ hs');
  recorded : IsRecorded l.config l.recording;
  setups : All (λ p. (state_of p).setup ≡ l.config.setup) l.procedures;
}
