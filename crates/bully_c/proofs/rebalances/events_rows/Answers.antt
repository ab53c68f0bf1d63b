use Rattle.std.proofs.Common.{rules}
use Rattle.bully_c.proofs.EventTextLemmas.{event-written}
use Rattle.bully_c.proofs.rebalances.events_rows.Goals as goal

pub loop-event-preserved : goal.loop-event-preserved
loop-event-preserved c =
    event-written c.args.events.now c.loop-event.event-index c.event-item.result _ _ (search rules) (search rules) c.loop-event.invariant (search rules)
