use Rattle.std.proofs.Common.{◌≡◌, map, take}
use Rattle.bully_film.specs.Lane.{is_orphan}
use Rattle.bully_film.proofs.whole.orphans.Given as goal

abbrev pub invariant-loop-snapshot : goal.invariant-loop-snapshot
invariant-loop-snapshot l = l.orphans.items ≡ map is_orphan (take l.snapshot-index l.snapshots)
