use Rattle.std.proofs.Common.{◌≡◌, ◌-◌, arith}
use Rattle.bully_rebalance.proofs.RebalanceLemmas.{halts_more, member_test}
use Rattle.bully_rebalance.proofs.rebalancing.push_halting.Goals as goal

pub loop-done-preserved : goal.loop-done-preserved
loop-done-preserved c =
    let below = c.number-below.result - 1 in
    let lower = c.unwrap-lower.result in
    let is : lower ≡ below - c.loop-done.done = grind (arith, c.new.ensures, c.unwrap-lower.ensures) in
    record {
      left = halts_more c.loop-done.events.items c.push_call.new.events.items c.args.events.now.items c.args.live.now c.args.node below c.loop-done.done lower c.has.result
          c.loop-done.invariant.left c.loop-done-test.true is (member_test c.args.live.now lower c.has.result c.has.ensures) c.in_ok-push_call.ensures;
      below = c.loop-done.invariant.below;
    }
