use Rattle.std.proofs.Common.{◌≡◌, ◌≤◌, length, arith, rules}
use Rattle.bully_rebalance.proofs.PartitionLemmas.{any_found, none_found}
use Rattle.bully_rebalance.proofs.working.owns_any.Goals as goal

pub returns-then-eq : goal.returns-then-eq
returns-then-eq c =
    let same : c.owner.result ≡ c.args.node = search (rules, c.eq.ensures, c.if-eq.ensures, c.if-eq.true) in
    any_found c.args.table.now c.loop-partition.partition c.owner.result c.args.node c.owner.ensures same

pub returns : goal.returns
returns c =
    let all : length c.args.table.now ≤ c.loop-partition.partition = let end = c.loop-partition.invariant.end in let past = c.loop-partition-test.false in omega (arith, end, past) in
    none_found c.args.table.now c.loop-partition.partition c.args.node all c.loop-partition.invariant.first
