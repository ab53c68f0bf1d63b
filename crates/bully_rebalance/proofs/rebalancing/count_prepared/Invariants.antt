use Rattle.std.proofs.Common.{◌≡◌, length}
use Rattle.bully_rebalance.proofs.rebalancing.count_prepared.Given as goal
use Rattle.bully_rebalance.specs.Rebalancing.{preparing}
use Rattle.bully_world.specs.State.{world_of}

-- so many nodes are counted
abbrev pub invariant-loop-before : goal.invariant-loop-before
invariant-loop-before l = record {
  first : l.count ≡ length (preparing (world_of l.world) l.live l.highest l.before);
  end : l.before-end ≡ l.world.setup.nodes;
}
