use Rattle.std.proofs.Common.{◌≡◌, ℕ, ◌<◌, length}
use Rattle.bully_play.specs.Schedule.{faults_in}
use Rattle.bully_play.specs.Turns.{OperatesOn}
use Rattle.bully_play.proofs.turns.take_operator_turn.Given as goal

abbrev pub invariant-loop-fault : goal.invariant-loop-fault
invariant-loop-fault g l = record {
  setup : g.S.Backend.setup l.backend ≡ g.S.Backend.setup l.fn.backend;
  operates : (after : _) → OperatesOn g.S.Backend.applies l.turn l.schedule l.backend after → OperatesOn g.S.Backend.applies l.turn l.fn.schedule l.fn.backend after;
  left : (k : ℕ) → l.turn < k → faults_in k l.schedule ≡ faults_in k l.fn.schedule;
}

abbrev pub decreases-loop-fault : goal.decreases-loop-fault
decreases-loop-fault g l = length l.schedule
