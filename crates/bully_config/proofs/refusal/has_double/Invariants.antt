use Rattle.std.proofs.Common.{◌≡◌, length, map}
use Rattle.toml.specs.View.{view}
use Rattle.bully_config.specs.Configuration.{has_double}
use Rattle.bully_config.specs.Values.{names_of}
use Rattle.bully_config.proofs.refusal.has_double.Given as goal

abbrev pub invariant-loop-first : goal.invariant-loop-first
invariant-loop-first l = has_double (names_of (map view l.others)) ≡ has_double (names_of (map view l.names))

abbrev pub decreases-loop-first : goal.decreases-loop-first
decreases-loop-first l = length l.others
