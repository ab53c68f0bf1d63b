-- The event of which a row of version 3 says more, and what it says.
use Rattle.std.specs.Prelude.{Some, None}
use Rattle.bully_calls.specs.declared.call.Answer.{Answer}
use Rattle.bully_calls.specs.declared.call.Call.{Call}
use Rattle.bully_calls.specs.declared.event.Event.{Event}
use Rattle.bully_calls.specs.declared.kind.NodeEventKind.{NodeEventKind}
use Rattle.bully_calls.specs.Events.{event_at}
use Rattle.bully_rows.specs.declared.detail.Detail.{Detail}
use Rattle.bully_rows.specs.declared.detail.DetailedEvent.{DetailedEvent}

abbrev pub event_of_detailed : DetailedEvent → Event
event_of_detailed e = event_at e.detail.kind e.node

-- what is said of an event of this kind and of this call, with no answer, and with one
abbrev pub unanswered : NodeEventKind → Call → Detail
unanswered k c = record { kind = k; call = c; answer = None }

abbrev pub answered : NodeEventKind → Call → Answer → Detail
answered k c a = record { kind = k; call = c; answer = Some a }
