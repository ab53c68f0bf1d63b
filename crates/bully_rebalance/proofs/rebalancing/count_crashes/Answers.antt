use Rattle.std.proofs.Common.{◌≡◌, ◌+◌, arith}
use Rattle.bully_rebalance.proofs.RebalanceLemmas.{crash_counted}
use Rattle.bully_rebalance.proofs.SizeLemmas.{crashing_size}
use Rattle.bully_rebalance.proofs.rebalancing.count_crashes.Goals as goal
use Rattle.bully_world.specs.State.{world_of}

pub overflow_add-count : goal.overflow_add-count
overflow_add-count c =
    let most = crashing_size (world_of c.args.world.now) c.loop-before.before in
    let so_far = c.loop-before.invariant.first in
    let few = c.count_crash-count.ensures.few in
    omega (arith, most, so_far, few)

pub loop-before-preserved : goal.loop-before-preserved
loop-before-preserved c =
    let w = world_of c.args.world.now in
    let node = c.unwrap-node.result in
    let next : c.loop-before.before + 1 ≡ node = grind (arith, c.new.ensures, c.unwrap-node.ensures) in
    record {
      first = crash_counted w c.loop-before.count c.count_crash-count.result c.loop-before.before node c.is_down.result c.loop-before.invariant.first next c.is_down.ensures c.count_crash-count.ensures.count;
      end = c.loop-before.invariant.end;
    }

pub returns-clause-few : goal.returns-clause-few
returns-clause-few c =
    let most = crashing_size (world_of c.args.world.now) c.loop-before.before in
    let so_far = c.loop-before.invariant.first in
    let range = c.loop-before.auto.before-end in
    let nodes = c.nodes-before-end.ensures.nodes in
    let limit = c.nodes-before-end.ensures.within.nodes.1 in
    omega (arith, most, so_far, range, nodes, limit)
