use Rattle.std.proofs.Common.{◌≡◌, ◌≤◌, ◌+◌, ◌-◌, ◌++◌, vec_capacity, vec_len}
use Rattle.bully_world.specs.State.{world_of}
use Rattle.bully_film.specs.Scene.{snapshots_of}
use Rattle.bully_film.proofs.snapshot.push_snapshots.Given as goal

abbrev pub invariant-loop-before : goal.invariant-loop-before
invariant-loop-before l = record {
  rest : l.snapshots.items ++ snapshots_of (world_of l.world) (l.before + 1) (l.world.setup.nodes - l.before) ≡ snapshots_of (world_of l.world) 1 l.world.setup.nodes;
  room : l.world.setup.nodes ≤ vec_capacity l.snapshots;
  count : vec_len l.snapshots ≡ l.before;
  end : l.before-end ≡ l.world.setup.nodes;
}
