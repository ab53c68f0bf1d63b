use Rattle.bully_calls.specs.Events.{event_at}
use Rattle.bully_rows.specs.declared.trace.Row.{Row}
use Rattle.bully_replica.proofs.row_replica.learn_read_row.Goals as goal

pub returns-in-Err-clause-fault : goal.returns-in-Err-clause-fault
returns-in-Err-clause-fault g c = (
  Row.Event (event_at c.in-Some.event.kind c.in-Some.event.node),
  rw (← c.version.ensures) (c.in-Some.ensures.event c.args.replica.now.world.setup),
  c.in-Err.ensures.why,
)
