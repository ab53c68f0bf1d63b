-- What an export over a handle answers.
use Rattle.std.specs.Prelude.{◌≡◌, ◌≢◌, ◌⊎◌, ℕ, ◌<◌, ◌≤◌, List, [], Option, Some, None, Result, Ok, Err, IsUtf8, length}
use Rattle.std.specs.Prelude.{unwrap_or, if◌then◌else◌}
use Rattle.std.specs.Option.{option_map_or}
use Rattle.bully_base.specs.NodeSet.{with_node}
use Rattle.bully_base.specs.Setup.{IsNode, IsSetup, Setup}
use Rattle.bully_calls.specs.declared.call.Answer.{Answer}
use Rattle.bully_calls.specs.declared.call.Call.{Call}
use Rattle.bully_calls.specs.Slot.{Slot, is_orphan}
use Rattle.bully_handlers.specs.Handler.{reply}
use Rattle.bully_handlers.specs.Vector.{Vector}
use Rattle.bully_lines.specs.Texts.{IsRequestFault, reply_of_text, reply_text, request_of_text, request_text}
use Rattle.bully_lines.specs.declared.fault.RequestFault.{RequestFault}
use Rattle.bully_lines.specs.declared.fault.ReplyFault.{ReplyFault}
use Rattle.bully_calls.specs.declared.message.Reply.{Reply}
use Rattle.bully_calls.specs.declared.message.Request.{Request}
use Rattle.bully_agent.specs.Agent.{AgentState, new_agent, wanted}
use Rattle.bully_agent.specs.Calls.{request_of}
use Rattle.bully_rows.specs.ReadBack.{AreOwners}
use Rattle.bully_steps.specs.declared.point.Want.{Want}
use Rattle.bully_table.specs.Planning.{planned}
use Rattle.bully_calls.specs.declared.event.Event.{Event}
use Rattle.bully_calls.specs.declared.event.Refused.{Refused}
use Rattle.bully_calls.specs.declared.kind.NodeEventKind.{NodeEventKind}
use Rattle.bully_calls.specs.Events.{event_at}
use Rattle.bully_c.specs.Arguments.{AreGiven, IsCopied, IsSetupRefusal, RefusesGiven, RefusesOwners, table_given}
use Rattle.bully_c.specs.HeldAgent.{ServesRequest, call_in, Takes, TakesFailure, TakesReply, TellsOwn, TellsPlan}
use Rattle.bully_c.specs.Numbers.{answer_number, kind_number, reply_number, request_number, status_number, step_number}
use Rattle.bully_c.specs.Numbers.{want_number}
use Rattle.bully_c.specs.declared.status.TheConstants.{BAD_NODE, CLOSED, LINE_WORD, OK, OPEN, OUT_OF_MEMORY, SHORT}
use Rattle.bully_c.specs.declared.status.TheConstants.{TABLE_LENGTH}
use Rattle.bully_c.specs.declared.held_agent.HeldAgent.{HeldAgent}
use Rattle.bully_c.specs.declared.held_agent.StepRows.{StepRows}
use Rattle.bully_c.specs.declared.shown.CState.{CState}

-- this holds for what an open handle has, and it stays open; the status reports a closed one, which stays closed
abbrev pub AtOpenOf : (H : Type 0) → (H → ℕ → H → Type 0) → Option H → ℕ → Option H → Type 0
AtOpenOf H Holds None status new = (status ≡ CLOSED) × (new ≡ None)
AtOpenOf H Holds (Some held) status new = (after : H) × (new ≡ Some after) × Holds held status after

-- and of an agent's
abbrev pub AtOpen : (HeldAgent → ℕ → HeldAgent → Type 0) → Option HeldAgent → ℕ → Option HeldAgent → Type 0
AtOpen = AtOpenOf HeldAgent

-- the status is that of a step which is taken or refused so
abbrev pub IsStep : {A : Type 0} → (HeldAgent → Result A Refused → HeldAgent → Type 0) → HeldAgent → ℕ → HeldAgent
    → Type 0
IsStep {A} Steps held status after = (said : Result A Refused) × (status ≡ step_number said) × Steps held said after

-- an event of this kind, which the node takes by itself
abbrev pub IsOwn : NodeEventKind → HeldAgent → ℕ → HeldAgent → Type 0
IsOwn kind = IsStep (Takes (event_at kind) (TellsOwn kind))

-- the plan of these owners, or why they are none of the setup
abbrev pub IsPlan : List ℕ → HeldAgent → ℕ → HeldAgent → Type 0
IsPlan owners held status after =
    (AreOwners held.agent.setup owners × IsStep (Takes (λ i. Event.Plan i owners) (TellsPlan owners)) held status after)
    ⊎ (RefusesOwners held.agent.setup owners status × (after ≡ held))

-- why a line is no request, by its number
abbrev pub RefusesRequestLine : Setup → List ℕ → ℕ → Type 0
RefusesRequestLine s line status =
    ((status ≡ LINE_WORD) × ¬ IsUtf8 line)
    ⊎ (IsUtf8 line × (fault : RequestFault) × (status ≡ request_number fault) × IsRequestFault s line fault)

-- and no reply
abbrev pub RefusesReplyLine : Setup → List ℕ → ℕ → Type 0
RefusesReplyLine s line status =
    ((status ≡ LINE_WORD) × ¬ IsUtf8 line)
    ⊎ (IsUtf8 line × (fault : ReplyFault) × (status ≡ reply_number fault) × (reply_of_text s line ≡ Err fault))

-- the line is that of a request
abbrev pub IsRequestLine : Setup → List ℕ → Request → Type 0
IsRequestLine s line request = IsUtf8 line × (request_of_text s line ≡ Ok request)

-- the line of what the node answers the request, if it runs
abbrev pub answer_line : HeldAgent → Request → List ℕ
answer_line held request = reply_text (record {
  caller = request.caller;
  number = request.number;
  answer = reply request.call.kind held.agent.node_state.vector.vector;
})

-- the request of a line runs, and the line of its reply is written. Nothing happens if there isn't room for that, if
-- the line is no request, or if an allocation failed.
pub record NothingServed (line : List ℕ) (room count : ℕ) (held : HeldAgent) (status count_after : ℕ) : Type 0 where
  pub why : ((request : Request) × IsRequestLine held.agent.setup line request × (status ≡ SHORT) × (room < count_after)
      × (count_after ≡ length (answer_line held request)))
      ⊎ ((request : Request) × IsRequestLine held.agent.setup line request × (status ≡ OUT_OF_MEMORY)
      × (count_after ≡ count))
      ⊎ (RefusesRequestLine held.agent.setup line status × (count_after ≡ count))

-- what was written of the reply, if there is one
abbrev pub IsReplyCopied : Result Reply Refused → List ℕ → ℕ → List ℕ → ℕ → Type 0
IsReplyCopied (Ok reply) before count_before after count = IsCopied (reply_text reply) before OK after count
IsReplyCopied (Err why) before count_before after count = (after ≡ before) × (count ≡ count_before)

abbrev pub IsServe : List ℕ → List ℕ → ℕ → List ℕ → ℕ → HeldAgent → ℕ → HeldAgent → Type 0
IsServe line before count_before after_reply count held status after =
    (NothingServed line (length before) count_before held status count × (after ≡ held) × (after_reply ≡ before))
    ⊎ ((request : Request) × IsRequestLine held.agent.setup line request
    × (length (answer_line held request) ≤ length before)
    × (said : Result Reply Refused) × (status ≡ step_number said) × ServesRequest request held said after
    × IsReplyCopied said before count_before after_reply count)

-- what a call brought, in the place of what was there
abbrev pub told_answer : ℕ → Result Answer Refused → ℕ
told_answer before (Ok answer) = answer_number answer
told_answer before (Err why) = before

abbrev pub IsReply : List ℕ → ℕ → ℕ → HeldAgent → ℕ → HeldAgent → Type 0
IsReply line before answer held status after =
    (RefusesReplyLine held.agent.setup line status × (after ≡ held) × (answer ≡ before))
    ⊎ ((reply : Reply) × IsUtf8 line × (reply_of_text held.agent.setup line ≡ Ok reply) × (said : Result Answer Refused)
    × (status ≡ step_number said)
    × TakesReply reply held said after × (answer ≡ told_answer before said))

abbrev pub IsFailure : ℕ → ℕ → ℕ → HeldAgent → ℕ → HeldAgent → Type 0
IsFailure number before answer held status after =
    (said : Result Answer Refused) × (status ≡ step_number said) × TakesFailure number held said after
    × (answer ≡ told_answer before said)

-- ---- what an agent shows

-- the line of the request that is given out, or nothing
abbrev pub request_line : AgentState → List ℕ
request_line a = option_map_or request_text (request_of a) []

abbrev pub number_or_none : Option ℕ → ℕ
number_or_none node = unwrap_or node 0

abbrev pub kind_in : Option Call → ℕ
kind_in None = 0
kind_in (Some call) = kind_number call.kind

abbrev pub callee_in : Option Call → ℕ
callee_in None = 0
callee_in (Some call) = call.callee

-- of a node with this vector and this slot, without the number of its last call
abbrev pub node_shown : Vector → Slot → ℕ → Want → CState
node_shown v slot generation wants =
    let call = call_in slot in
    record {
      status = status_number v.status;
      wants = want_number wants;
      events = 0;
      generation = generation;
      call = kind_in call;
      orphan = if is_orphan generation slot then 1 else 0;
      number = 0;
      node = 0;
      coordinator = number_or_none v.coordinator;
      halter = number_or_none v.halter;
      callee = callee_in call;
    }

abbrev pub shown : AgentState → CState
shown a = record (node_shown a.node_state.vector.vector a.node_state.slot a.node_state.generation (wanted a))
    { events = a.events; number = a.number; node = a.node }

-- nothing changes, and this is shown
abbrev pub ShowsOf : (H : Type 0) → (H → ℕ → Type 0) → H → ℕ → H → Type 0
ShowsOf H Says held status after = Says held status × (after ≡ held)

-- and shown of the agent
abbrev pub Shows : (HeldAgent → ℕ → Type 0) → HeldAgent → ℕ → HeldAgent → Type 0
Shows = ShowsOf HeldAgent

-- ---- what a node should plan

-- the table that the agent prepares from these owners, if any
abbrev pub IsPreparedTable : AgentState → List ℕ → List ℕ → Type 0
IsPreparedTable a old table =
    AreGiven a.setup old × (table ≡ planned a.setup (table_given old) (with_node a.node a.node_state.vector.vector.up))

-- why there is none: the room isn't that of a table, the old owners are none of the setup, or an allocation failed
abbrev pub RefusesPrepare : AgentState → List ℕ → ℕ → ℕ → Type 0
RefusesPrepare a old room status =
    ((status ≡ TABLE_LENGTH) × (room ≢ a.setup.partitions))
    ⊎ ((room ≡ a.setup.partitions) × RefusesGiven a.setup old status)
    ⊎ ((status ≡ OUT_OF_MEMORY) × (room ≡ a.setup.partitions) × AreGiven a.setup old)

abbrev pub IsPrepared : List ℕ → List ℕ → List ℕ → HeldAgent → ℕ → HeldAgent → Type 0
IsPrepared old before owners = Shows (λ held status.
    ((status ≡ OK) × IsPreparedTable held.agent old owners)
    ⊎ (RefusesPrepare held.agent old (length before) status × (owners ≡ before)))

-- ---- opening and closing

-- there is such a setup, such a node of it, and such a task
pub record CanOpen (s : Setup) (node : ℕ) (task : List ℕ) : Type 0 where
  pub within : IsSetup s
  pub is_node : IsNode s node
  pub task_is : AreGiven s task

-- why a handle isn't opened
pub record RefusesOpening (s : Setup) (node : ℕ) (task : List ℕ) (status : ℕ) : Type 0 where
  pub why : IsSetupRefusal s status
      ⊎ ((status ≡ BAD_NODE) × IsSetup s × ¬ IsNode s node)
      ⊎ (IsSetup s × IsNode s node × RefusesGiven s task status)
      ⊎ ((status ≡ OUT_OF_MEMORY) × IsSetup s × IsNode s node × AreGiven s task)

-- the agent that took no step
abbrev pub opened : Setup → ℕ → ℕ → List ℕ → HeldAgent
opened s node events task = record { agent = new_agent s node events (table_given task); told = StepRows.Nothing }

abbrev pub IsOpening : Setup → ℕ → ℕ → List ℕ → Option HeldAgent → ℕ → Option HeldAgent → Type 0
IsOpening s node events task (Some held) status new = (status ≡ OPEN) × (new ≡ Some held)
IsOpening s node events task None status new =
    ((status ≡ OK) × CanOpen s node task × (new ≡ Some (opened s node events task)))
    ⊎ (RefusesOpening s node task status × (new ≡ None))

abbrev pub IsClosing : {H : Type 0} → Option H → ℕ → Option H → Type 0
IsClosing None status new = (status ≡ CLOSED) × (new ≡ None)
IsClosing (Some held) status new = (status ≡ OK) × (new ≡ None)
