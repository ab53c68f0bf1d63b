use Rattle.std.proofs.Common.{◌≡◌, filter, length, take}
use Rattle.bully_rebalance.proofs.leaving.left_of.Given as goal
use Rattle.bully_rebalance.specs.Leaving.{is_given}

-- those of the first ones that the table gives the node
abbrev pub invariant-loop-offset : goal.invariant-loop-offset
invariant-loop-offset l = record {
  left : l.left.items ≡ filter (is_given l.table l.node) (take l.offset l.partitions);
  end : l.offset-end ≡ length l.partitions;
}
