use Rattle.std.proofs.Common.{◌≡◌, Some, IfSome}
use Rattle.bully_tests.proofs.tests.groups.observers.rounds.Given as goal

abbrev pub invariant-loop-each : goal.invariant-loop-each
invariant-loop-each g l = IfSome l.told (λ t. g.L.Naming.publisher ≡ Some t.publisher)
