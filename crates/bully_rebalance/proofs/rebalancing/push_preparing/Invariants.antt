use Rattle.std.proofs.Common.{◌≡◌, ◌++◌}
use Rattle.bully_rebalance.proofs.rebalancing.push_preparing.Given as goal
use Rattle.bully_rebalance.specs.Rebalancing.{preparing}
use Rattle.bully_world.specs.State.{world_of}

-- so many nodes are prepared
abbrev pub invariant-loop-before : goal.invariant-loop-before
invariant-loop-before l = record {
  first : l.events.items ≡ l.fn.events.items ++ preparing (world_of l.world) l.live l.highest l.before;
  end : l.before-end ≡ l.world.setup.nodes;
}
