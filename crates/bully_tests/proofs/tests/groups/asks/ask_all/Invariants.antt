use Rattle.std.proofs.Common.{◌≡◌}
use Rattle.bully_steps.specs.Procedure.{state_of}
use Rattle.bully_tests.proofs.tests.groups.asks.ask_all.Given as goal

abbrev pub invariant-loop-each : goal.invariant-loop-each
invariant-loop-each g l = ((state_of l.beside.procedure).setup ≡ g.L.Naming.setup) × (l.beside.watchers ≡ g.L.Naming.publisher)
