use Rattle.std.proofs.Common.{IsTrue, arith, rules}
use Rattle.std.specs.Option.{option_copied}
use Rattle.bully_rebalance.proofs.RebalancedLemmas.{rebalanced_lem, size_told}
use Rattle.bully_rebalance.proofs.rebalancing.rebalance.Goals as goal

pub returns-clause-rebalances : goal.returns-clause-rebalances
returns-clause-rebalances c =
    let room : IsTrue c.has_room.result = search (rules, c.if-not-has_room.false) in
    let told = c.has_room.ensures.room.0 room in
    let size = size_told c.args.replica.now c.world.result.now (option_copied c.args.old) c.args.live.now c.count_rebalance-count.result c.world.ensures.world (c.count_rebalance-count.ensures.count) in
    rebalanced_lem c.args.replica.now (option_copied c.args.old) c.args.live.now c.in_ok-events.events.items c.requires.nodes c.requires.old c.has_room.ensures.setup c.count_rebalance-count.ensures.falling
    (omega (arith, told, size)) c.in_ok-events.ensures
