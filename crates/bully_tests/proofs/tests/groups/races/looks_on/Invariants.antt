use Rattle.std.proofs.Common.{◌≡◌}
use Rattle.bully_tests.proofs.tests.groups.races.looks_on.Given as goal

abbrev pub invariant-loop-look : goal.invariant-loop-look
invariant-loop-look l = l.watchers ≡ l.fn.watchers
