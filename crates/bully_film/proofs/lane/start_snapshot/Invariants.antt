use Rattle.std.proofs.Common.{◌≡◌, drop}
use Rattle.bully_film.specs.Lane.{start_snapshot}
use Rattle.bully_film.proofs.lane.start_snapshot.Given as goal

abbrev pub invariant-loop-scene : goal.invariant-loop-scene
invariant-loop-scene l = start_snapshot l.node (drop l.scene-index l.scenes) l.at_end ≡ start_snapshot l.node l.scenes l.at_end
