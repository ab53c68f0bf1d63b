use Rattle.std.proofs.Common.{◌≡◌, ◌+◌, arith}
use Rattle.bully_rebalance.proofs.RebalanceLemmas.{crashes_more}
use Rattle.bully_rebalance.proofs.rebalancing.push_crashes.Goals as goal
use Rattle.bully_world.specs.State.{world_of}

pub loop-before-preserved : goal.loop-before-preserved
loop-before-preserved c =
    let w = world_of c.args.world.now in
    let node = c.unwrap-node.result in
    let next : c.loop-before.before + 1 ≡ node = grind (arith, c.new.ensures, c.unwrap-node.ensures) in
    record {
      first = crashes_more c.loop-before.events.items c.push_crash.new.events.items c.args.events.now.items w c.loop-before.before node c.is_down.result c.loop-before.invariant.first next c.is_down.ensures c.in_ok-push_crash.ensures;
      end = c.loop-before.invariant.end;
    }
