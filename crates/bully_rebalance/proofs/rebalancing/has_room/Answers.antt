use Rattle.std.proofs.Common.{arith}
use Rattle.bully_rebalance.proofs.RebalancedLemmas.{events_within}
use Rattle.bully_rebalance.proofs.rebalancing.has_room.Goals as goal

pub overflow_add-result : goal.overflow_add-result
overflow_add-result c =
    let within = events_within c.args.replica.now.world c.world.result.now c.setup.result.now c.world.ensures.world c.setup.ensures.setup c.setup.ensures.reached c.events_max-bound.ensures.within in
    let events = c.events.ensures in
    let few = c.requires in
    omega (arith, within, events, few)
