use Rattle.std.proofs.Common.{◌≡◌, ◌++◌, ◌∷◌, drop}
use Rattle.bully_film.specs.Lane.{snapshots_after}
use Rattle.bully_film.proofs.lane.push_lane.Given as goal

abbrev pub invariant-loop-scene : goal.invariant-loop-scene
invariant-loop-scene l = l.snapshots.items ++ snapshots_after l.node l.now (drop l.scene-index l.scenes) ≡ l.fn.start ∷ snapshots_after l.node l.fn.start l.scenes
