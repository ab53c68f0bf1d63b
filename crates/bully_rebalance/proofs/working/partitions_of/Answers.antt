use Rattle.std.proofs.Common.{◌≡◌, ◌==◌, Some, slice_get, rules, subst}
use Rattle.bully_rebalance.proofs.PartitionLemmas.{one_more}
use Rattle.bully_rebalance.proofs.working.partitions_of.Goals as goal

pub loop-partition-preserved : goal.loop-partition-preserved
loop-partition-preserved c =
    let owner : slice_get c.args.table.now c.loop-partition.partition ≡ Some c.owner.result = subst (λ k. slice_get c.args.table.now k ≡ Some c.owner.result) c.from.ensures c.owner.ensures in
    let tests : c.eq-is_owner.result ≡ (c.owner.result == c.args.node) = search (rules, c.eq-is_owner.ensures) in
    one_more c.loop-partition.partitions.items c.push_if.new.partitions.items c.args.table.now c.loop-partition.partition c.owner.result c.args.node c.eq-is_owner.result c.loop-partition.invariant owner tests c.in_ok-push_if.ensures
