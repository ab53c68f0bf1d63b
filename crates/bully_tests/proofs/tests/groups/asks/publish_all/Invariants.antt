use Rattle.std.proofs.Common.{◌≡◌}
use Rattle.bully_tests.proofs.tests.groups.asks.publish_all.Given as goal

abbrev pub invariant-loop-each : goal.invariant-loop-each
invariant-loop-each g l = (l.beside.procedure ≡ l.fn.beside.procedure) × (l.beside.watchers ≡ l.fn.beside.watchers)
