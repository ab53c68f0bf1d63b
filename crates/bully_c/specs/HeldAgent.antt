-- What an agent behind a handle takes, and what its last step tells.
use Rattle.std.specs.Prelude.{◌≡◌, ℕ, List, [], ◌∷◌, Option, Some, None, Result, Ok, Err, option_map}
use Rattle.bully_calls.specs.declared.call.Answer.{Answer}
use Rattle.bully_calls.specs.declared.call.Call.{Call}
use Rattle.bully_calls.specs.Slot.{Slot}
use Rattle.bully_calls.specs.declared.message.Reply.{Reply}
use Rattle.bully_calls.specs.declared.message.Request.{Request}
use Rattle.bully_agent.specs.Agent.{AgentState, IsRefused, IsTaken}
use Rattle.bully_agent.specs.Calls.{IsFailed, IsReplyTo, IsRequested, IsReturned, IsServed, RefusesFailure}
use Rattle.bully_agent.specs.Calls.{RefusesReply, RefusesRequest, TellsRun}
use Rattle.bully_agent.specs.Part.{Always}
use Rattle.bully_rows.specs.declared.detail.Detail.{Detail}
use Rattle.bully_rows.specs.EventsTold.{answered, unanswered}
use Rattle.bully_rows.specs.declared.trace.Row.{Row}
use Rattle.bully_calls.specs.declared.event.Event.{Event}
use Rattle.bully_calls.specs.declared.kind.NodeEventKind.{NodeEventKind}
use Rattle.bully_calls.specs.declared.kind.EventKind.{EventKind}
use Rattle.bully_calls.specs.declared.kind.Saying.{Saying}
use Rattle.bully_calls.specs.Events.{event_at, saying_of}
use Rattle.bully_calls.specs.declared.event.Refused.{Refused}
use Rattle.bully_c.specs.declared.held_agent.HeldAgent.{HeldAgent}
use Rattle.bully_c.specs.declared.held_agent.StepRows.{StepRows}

-- ---- what is told

-- the rows of it
abbrev pub rows_told : StepRows → List Row
rows_told StepRows.Nothing = []
rows_told (StepRows.Event e) = Row.Event e ∷ []
rows_told (StepRows.Call event) = Row.Detailed event ∷ []
rows_told (StepRows.Failure i call answer) =
    Row.Detailed (record { node = i; detail = unanswered NodeEventKind.Lose call })
    ∷ Row.Detailed (record { node = i; detail = answered NodeEventKind.Return call answer }) ∷ []

-- an event of a call of node i
abbrev pub detail_told : ℕ → Option Detail → StepRows
detail_told i None = StepRows.Nothing
detail_told i (Some detail) = StepRows.Call (record { node = i; detail = detail })

-- the call in a slot
abbrev pub call_in : Slot → Option Call
call_in slot = option_map (λ p. p.call) slot.content

-- the failure of node i's call
abbrev pub failure_told : ℕ → Answer → Option Call → StepRows
failure_told i answer None = StepRows.Nothing
failure_told i answer (Some call) = StepRows.Failure i call answer

-- ---- what is taken

-- the agent takes an event by itself, and tells it, or refuses it, and has not changed
abbrev pub Takes : (ℕ → Event) → (AgentState → AgentState → StepRows → Type 0) → HeldAgent → Result Answer Refused
    → HeldAgent → Type 0
Takes event Tells old (Ok answer) new =
    IsTaken old.agent (event old.agent.node) new.agent (record { event = event old.agent.node; answer = answer })
    × Tells old.agent new.agent new.told
Takes event Tells old (Err why) new = IsRefused Always old.agent (event old.agent.node) why × (new ≡ old)

-- what is told of an event that node i takes by itself, with this call in its slot before it, and that one after it:
-- what its row may say of the one that was offered, which is there then, or of the one that was there, or the event and
-- no more
abbrev pub told_by : Saying → NodeEventKind → ℕ → Option Call → Option Call → StepRows
told_by Saying.Offered kind i before after = detail_told i (option_map (unanswered kind) after)
told_by Saying.Held kind i before after = detail_told i (option_map (unanswered kind) before)
told_by saying kind i before after = StepRows.Event (event_at kind i)

abbrev pub own_told : NodeEventKind → ℕ → Option Call → Option Call → StepRows
own_told kind = told_by (saying_of (EventKind.Node kind)) kind

-- that is told
abbrev pub TellsOwn : NodeEventKind → AgentState → AgentState → StepRows → Type 0
TellsOwn kind old new told = told ≡ own_told kind old.node (call_in old.node_state.slot) (call_in new.node_state.slot)

-- the plan of the table is told
abbrev pub TellsPlan : List ℕ → AgentState → AgentState → StepRows → Type 0
TellsPlan table old new told = told ≡ StepRows.Event (Event.Plan old.node table)

-- a request runs at the agent, and its run is told with the answer, or it is refused
abbrev pub ServesRequest : Request → HeldAgent → Result Reply Refused → HeldAgent → Type 0
ServesRequest request old (Ok reply) new =
    IsServed old.agent request new.agent (record { event = Event.Run request.caller; reply = reply })
    × TellsRun old.agent request reply × IsReplyTo request reply
    × (new.told
    ≡ StepRows.Call (record { node = request.caller; detail = answered NodeEventKind.Run request.call reply.answer }))
ServesRequest request old (Err why) new =
    IsRefused (IsRequested old.agent.node request) old.agent (Event.Run request.caller) why
    × RefusesRequest old.agent.setup old.agent.node old.agent.events old.agent.node_state request why × (new ≡ old)

-- the agent's call returns with a reply, and the return is told with what it brings, or the reply is refused
abbrev pub TakesReply : Reply → HeldAgent → Result Answer Refused → HeldAgent → Type 0
TakesReply reply old (Ok answer) new =
    IsReturned old.agent reply new.agent (record { event = Event.Return old.agent.node; answer = answer })
    × (new.told ≡ detail_told old.agent.node
    (option_map (λ call. answered NodeEventKind.Return call answer) (call_in old.agent.node_state.slot)))
TakesReply reply old (Err why) new = RefusesReply old.agent reply why × (new ≡ old)

-- the agent's call failed, and its loss and return are told, or that is refused
abbrev pub TakesFailure : ℕ → HeldAgent → Result Answer Refused → HeldAgent → Type 0
TakesFailure number old (Ok answer) new =
    IsFailed old.agent number new.agent (record {
      lost = Event.Lose old.agent.node;
      returned = record { event = Event.Return old.agent.node; answer = answer };
    })
    × (new.told ≡ failure_told old.agent.node answer (call_in old.agent.node_state.slot))
TakesFailure number old (Err why) new = RefusesFailure old.agent number why × (new ≡ old)
