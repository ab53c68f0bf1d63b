use Rattle.std.proofs.Common.{◌≡◌, ◌++◌}
use Rattle.bully_rebalance.proofs.rebalancing.push_crashes.Given as goal
use Rattle.bully_rebalance.specs.Rebalancing.{crashing}
use Rattle.bully_world.specs.State.{world_of}

-- so many nodes have crashed, if they were up
abbrev pub invariant-loop-before : goal.invariant-loop-before
invariant-loop-before l = record {
  first : l.events.items ≡ l.fn.events.items ++ crashing (world_of l.world) l.before;
  end : l.before-end ≡ l.world.setup.nodes;
}
