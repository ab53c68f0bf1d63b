use Rattle.std.proofs.Common.{◌≡◌, ◌<◌, ℕ, length}
use Rattle.bully_rebalance.proofs.working.owns_any.Given as goal
use Rattle.bully_work.specs.Working.{GivesTo}

-- none of the first partitions is the node's
abbrev pub invariant-loop-partition : goal.invariant-loop-partition
invariant-loop-partition l = record {
  first : (k : ℕ) → k < l.partition → GivesTo l.table k l.node → ⊥;
  end : l.partition-end ≡ length l.table;
}
