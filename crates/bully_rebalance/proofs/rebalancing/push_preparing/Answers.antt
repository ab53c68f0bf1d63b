use Rattle.std.proofs.Common.{◌≡◌, ◌+◌, ◌==◌, arith, rules}
use Rattle.bully_rebalance.proofs.RebalanceLemmas.{member_test, prepared_more}
use Rattle.bully_rebalance.proofs.rebalancing.push_preparing.Goals as goal
use Rattle.bully_world.specs.State.{world_of}

pub loop-before-preserved : goal.loop-before-preserved
loop-before-preserved c =
    let w = world_of c.args.world.now in
    let node = c.unwrap-node.result in
    let next : c.loop-before.before + 1 ≡ node = grind (arith, c.new.ensures, c.unwrap-node.ensures) in
    let stands : c.eq.result ≡ (node == c.args.highest) = search (rules, c.eq.ensures) in
    record {
      first = prepared_more c.loop-before.events.items c.push_prepared.new.events.items c.args.events.now.items w c.args.live.now c.args.highest c.loop-before.before node c.has.result c.eq.result c.is_down.result
          c.loop-before.invariant.first next (member_test c.args.live.now node c.has.result c.has.ensures) stands c.is_down.ensures c.in_ok-push_prepared.ensures;
      end = c.loop-before.invariant.end;
    }
