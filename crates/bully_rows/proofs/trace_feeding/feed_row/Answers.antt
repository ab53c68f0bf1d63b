use Rattle.std.proofs.Common.{refl}
use Rattle.bully_calls.specs.Events.{event_at}
use Rattle.bully_rows.specs.declared.trace.Row.{Row}
use Rattle.bully_rows.proofs.trace_feeding.feed_row.Goals as goal

pub returns-in_ok-feed_read_event-in-Some-clause-taken : goal.returns-in_ok-feed_read_event-in-Some-clause-taken
returns-in_ok-feed_read_event-in-Some-clause-taken g c = λ start. (
  refl,
  Row.Event (event_at c.in-Some.event.kind c.in-Some.event.node),
  c.in-Some.ensures.event c.args.begun.now.header.setup,
  c.in_ok-feed_read_event-in-Some.ensures start,
)
