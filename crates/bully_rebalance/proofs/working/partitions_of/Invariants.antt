use Rattle.std.proofs.Common.{◌≡◌, take}
use Rattle.bully_rebalance.proofs.working.partitions_of.Given as goal
use Rattle.bully_rebalance.specs.Owning.{partitions_of}

-- the node's partitions among the first ones
abbrev pub invariant-loop-partition : goal.invariant-loop-partition
invariant-loop-partition l = l.partitions.items ≡ partitions_of (take l.partition l.table) l.node
