use Rattle.std.proofs.Common.{◌≡◌, Some, IfSome}
use Rattle.bully_tests.proofs.tests.groups.races.recovers_and_crashes.Given as goal

abbrev pub invariant-loop-round : goal.invariant-loop-round
invariant-loop-round g l = IfSome l.last (λ told. g.L.Naming.publisher ≡ Some told.publisher)
