use Rattle.std.proofs.Common.{◌≡◌, All, map}
use Rattle.bully_play.specs.Turns.{idle_first}
use Rattle.bully_steps.specs.Procedure.{state_of}
use Rattle.bully_play.proofs.playing.idle_procedures.Given as goal

abbrev pub invariant-loop-before : goal.invariant-loop-before
invariant-loop-before l = record {
  idle : map state_of l.procedures.items ≡ idle_first l.setup l.before;
  setups : All (λ p. (state_of p).setup ≡ l.setup) l.procedures.items;
  end : l.before-end ≡ l.setup.nodes;
}
