use Rattle.std.proofs.Common.{◌≡◌, ◌++◌, ◌-◌}
use Rattle.bully_rebalance.proofs.rebalancing.push_halting.Given as goal
use Rattle.bully_rebalance.specs.Rebalancing.{halting}

-- so many nodes are left to be halted
abbrev pub invariant-loop-done : goal.invariant-loop-done
invariant-loop-done l = record {
  left : l.events.items ++ halting l.live l.node (l.below - l.done) ≡ l.fn.events.items ++ halting l.live l.node l.below;
  below : l.below ≡ l.node - 1;
}
