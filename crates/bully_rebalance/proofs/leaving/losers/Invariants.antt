use Rattle.std.proofs.Common.{◌≡◌, ◌↔◌, ℕ, Contains, length}
use Rattle.std.specs.Option.{option_copied}
use Rattle.bully_rebalance.proofs.LeaveLemmas.{LosesIn}
use Rattle.bully_rebalance.proofs.leaving.losers.Given as goal

-- those that lose one of the first partitions
abbrev pub invariant-loop-partition : goal.invariant-loop-partition
invariant-loop-partition l = record {
  found : (i : ℕ) → Contains l.losers i ↔ LosesIn l.before (option_copied l.after) l.partition i;
  end : l.partition-end ≡ length l.before;
}
