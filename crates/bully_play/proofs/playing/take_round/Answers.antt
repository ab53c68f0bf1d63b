use Rattle.std.proofs.Common.{map, arith}
use Rattle.bully_play.proofs.RecordingLemmas.{operator_recorded}
use Rattle.bully_play.proofs.RoundLemmas.{turns_all}
use Rattle.bully_steps.specs.Procedure.{state_of}
use Rattle.bully_play.proofs.playing.take_round.Goals as goal

pub returns-clause-round : goal.returns-clause-round
returns-clause-round c =
    (c.take_operator_turn.new.backend, c.in_ok-take_operator_turn.ensures.operates c.args.config.now.faults c.requires.left, turns_all c.args.config.now.period c.args.turn c.loop-procedure.procedure-index c.loop-procedure.procedures (map state_of c.args.procedures.now) _ c.loop-procedure.recording (omega arith) c.loop-procedure.invariant.turns)

pub loop-procedure-init : goal.loop-procedure-init
loop-procedure-init c = record {
  turns = λ after hs' turns. turns;
  recorded = operator_recorded c.args.config.now c.args.turn c.args.recording.now c.take_operator_turn.new.backend (c.in_ok-take_operator_turn.ensures.operates c.args.config.now.faults c.requires.left) c.requires.recorded;
  setups = c.requires.setups;
}
