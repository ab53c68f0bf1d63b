use Rattle.bully_rebalance.proofs.RebalanceLemmas.{calls_more}
use Rattle.bully_rebalance.proofs.rebalancing.push_calling.Goals as goal
use Rattle.bully_rebalance.specs.Rebalancing.{whole_call}

pub loop-preserved : goal.loop-preserved
loop-preserved c =
    calls_more c.loop.events.items c.push_call.new.events.items c.args.events.now.items c.args.count c.loop.counter (whole_call c.args.node c.args.are_answered) c.loop.invariant c.loop-test.true c.in_ok-push_call.ensures
