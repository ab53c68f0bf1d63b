use Rattle.std.proofs.Common.{◌≡◌, ◌≤◌, ◌<◌, ℕ}
use Rattle.bully_rebalance.specs.Stable.{IsStableIn}
use Rattle.bully_rebalance.proofs.stable.all_stable.Given as goal
use Rattle.bully_world.specs.State.{world_of}
use Rattle.bully_world.specs.World.{vector}

-- the first nodes are stable
abbrev pub invariant-loop-before : goal.invariant-loop-before
invariant-loop-before l = record {
  first : (i : ℕ) → 0 < i → i ≤ l.before → IsStableIn l.live i (vector (world_of l.world) i);
  end : l.before-end ≡ l.world.setup.nodes;
}
