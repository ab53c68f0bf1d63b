use Rattle.std.proofs.Common.{◌≡◌, length}
use Rattle.bully_rebalance.proofs.rebalancing.count_crashes.Given as goal
use Rattle.bully_rebalance.specs.Rebalancing.{crashing}
use Rattle.bully_world.specs.State.{world_of}

-- so many nodes are counted
abbrev pub invariant-loop-before : goal.invariant-loop-before
invariant-loop-before l = record {
  first : l.count ≡ length (crashing (world_of l.world) l.before);
  end : l.before-end ≡ l.world.setup.nodes;
}
