use Rattle.std.proofs.Common.{◌≡◌, ◌+◌, All, map}
use Rattle.bully_play.specs.Schedule.{AreLeft}
use Rattle.bully_play.specs.Recording.{IsRecorded}
use Rattle.bully_play.specs.Turns.{Rounds, first_recording, idle_first}
use Rattle.bully_steps.specs.Procedure.{state_of}
use Rattle.bully_play.proofs.playing.trace_of.Given as goal

abbrev pub invariant-loop-before : goal.invariant-loop-before
invariant-loop-before l = record {
  rounds : Rounds l.config.faults l.config.period l.before 1 (first_recording l.config.setup) (idle_first l.config.setup l.config.setup.nodes) l.recording (map state_of l.procedures.items);
  left : AreLeft l.config.faults (l.before + 1) l.schedule;
  recorded : IsRecorded l.config l.recording;
  setups : All (λ p. (state_of p).setup ≡ l.config.setup) l.procedures.items;
  end : l.before-end ≡ l.config.turns;
}
