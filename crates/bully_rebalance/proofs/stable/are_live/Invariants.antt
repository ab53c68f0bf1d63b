use Rattle.std.proofs.Common.{◌≡◌, ◌<◌, ℕ, Contains, length}
use Rattle.bully_rebalance.proofs.stable.are_live.Given as goal
use Rattle.bully_work.specs.Working.{GivesTo}

-- the first partitions' owners are live
abbrev pub invariant-loop-partition : goal.invariant-loop-partition
invariant-loop-partition l = record {
  first : (k owner : ℕ) → k < l.partition → GivesTo l.table k owner → Contains l.live owner;
  end : l.partition-end ≡ length l.table;
}
