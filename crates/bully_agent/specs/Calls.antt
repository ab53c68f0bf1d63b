-- What comes to an agent from other nodes, or of its own call: what the world has of it, and what the agent makes of
-- it.
use Rattle.std.specs.Prelude.{◌≡◌, ◌≢◌, ◌≤◌, ◌<◌, ◌+◌, ℕ, true, Option, Some, None, IfSome, if◌then◌else◌}
use Rattle.bully_base.specs.declared.node.Status.TheVariants.{Down}
use Rattle.bully_base.specs.Setup.{Setup, IsNode}
use Rattle.bully_calls.specs.declared.call.Answer.{Answer}
use Rattle.bully_calls.specs.declared.call.Phase.{Phase}
use Rattle.bully_calls.specs.Pending.{Pending, is_sent}
use Rattle.bully_calls.specs.Slot.{Slot, SlotCall, holds_call}
use Rattle.bully_handlers.specs.Handler.{reply}
use Rattle.bully_calls.specs.declared.message.Request.{Request}
use Rattle.bully_calls.specs.declared.message.Reply.{Reply}
use Rattle.bully_calls.specs.declared.event.Event.{Event}
use Rattle.bully_calls.specs.declared.event.Refused.{Refused}
use Rattle.bully_world.specs.declared.take.AppliedStep.{AppliedStep}
use Rattle.bully_world.specs.NodeInvariant.{SuitsCallee, SuitsPhase, SuitsTable}
use Rattle.bully_world.specs.State.{StoredNode}
use Rattle.bully_world.specs.StateAfter.{heard_state, node_after, node_answer, phased_state}
use Rattle.bully_world.specs.Step.{Step}
use Rattle.bully_world.specs.World.{World, pending, vector}
use Rattle.bully_agent.specs.declared.agent.Served.{Served}
use Rattle.bully_agent.specs.declared.agent.FailedCall.{FailedCall}
use Rattle.bully_agent.specs.Agent.{AgentState, Follows, PartOf}
use Rattle.bully_agent.specs.Part.{Always, FollowsAt}

-- the request goes to node i, and is the call of its caller, which was sent and didn't run yet
pub record IsRequested (i : ℕ) (request : Request) (w : World) : Type 0 where
  pub call : Pending
  pub is : pending w request.caller ≡ Some call
  pub sent : call.phase ≡ Phase.Sent
  pub same : call.call ≡ request.call
  pub table : call.table ≡ request.table
  pub goes : request.call.callee ≡ i

-- the request may come to node i: it is made to this node, by one that makes such a call to it, and exactly a Ready
-- carries a table, one of the setup's partitions
pub record SuitsNode (setup : Setup) (i : ℕ) (request : Request) : Type 0 where
  pub goes : request.call.callee ≡ i
  pub callee : SuitsCallee request.caller request.call.kind i
  pub table : SuitsTable setup request.call.kind request.table

-- the request of the agent's call, while that is under way
abbrev pub request_in : AgentState → Option SlotCall → Option Request
request_in a None = None
request_in a (Some p) = if is_sent p.phase
    then Some (record { caller = a.node; number = a.number; call = p.call; table = p.table }) else None

abbrev pub request_of : AgentState → Option Request
request_of a = request_in a a.node_state.slot.content

-- node i's call was sent, and didn't run yet
pub record IsWaiting (i : ℕ) (w : World) : Type 0 where
  pub call : Pending
  pub is : pending w i ≡ Some call
  pub sent : call.phase ≡ Phase.Sent

-- the request that is given out, if any, is one that its callee may serve: in each world that the agent may be a part
-- of, and where its call waits, this is its call
abbrev pub GivesOut : AgentState → Option Request → Type 0
GivesOut a given = IfSome given (λ r. (w : World) → PartOf a w → IsWaiting a.node w → IsRequested r.call.callee r w)

-- nothing refuses the request at node i, of which this is kept
pub record CanServe (setup : Setup) (i events : ℕ) (m : StoredNode) (request : Request) : Type 0 where
  pub room : events < setup.events_max
  pub caller : IsNode setup request.caller
  pub suits : SuitsNode setup i request
  pub up : m.vector.vector.status ≢ Down

-- why a request is refused, the first of these that holds: no room for the event, a caller above the setup's last node,
-- a request that may not come to node i, a node that is Down
abbrev pub RefusesRequest : Setup → ℕ → ℕ → StoredNode → Request → Refused → Type 0
RefusesRequest setup i events m r Refused.Full = setup.events_max ≤ events
RefusesRequest setup i events m r Refused.BadNode = (events < setup.events_max) × (setup.nodes < r.caller)
RefusesRequest setup i events m r Refused.NoCall = (events < setup.events_max) × IsNode setup r.caller
    × (SuitsNode setup i r → ⊥)
RefusesRequest setup i events m r Refused.CalleeDown = (events < setup.events_max) × IsNode setup r.caller
    × SuitsNode setup i r × (m.vector.vector.status ≡ Down)
RefusesRequest setup i events m r _ = ⊥

-- the request ran at the agent, where nothing refused it: it tells the event and the reply, is what the call makes of
-- it, and the event leads on in every world that it may be a part of, and in which this is the caller's call
pub record IsServed (old : AgentState) (request : Request) (new : AgentState) (served : Served) : Type 0 where
  pub can : CanServe old.setup old.node old.events old.node_state request
  pub event : served.event ≡ Event.Run request.caller
  pub answered : served.reply ≡ record {
    caller = request.caller;
    number = request.number;
    answer = reply request.call.kind old.node_state.vector.vector;
  }
  pub after : new ≡ record old {
    events = old.events + 1;
    node_state = heard_state request.caller request.call request.table old.node_state;
  }
  pub follows : Follows (IsRequested old.node request) old (Event.Run request.caller) served.reply.answer new

-- node i's call ran with this answer
pub record HasRun (i : ℕ) (answer : Answer) (w : World) : Type 0 where
  pub call : Pending
  pub is : pending w i ≡ Some call
  pub ran : call.phase ≡ Phase.Ran answer

-- the reply tells what the run comes to: wherever that leads from a world that the agent may be a part of, and in which
-- the request is the caller's call, that call ran with this answer
abbrev pub TellsRun : AgentState → Request → Reply → Type 0
TellsRun a request reply =
    (w w' : World) (answer : Answer) → PartOf a w → IsRequested a.node request w
    → Step a.setup w (Event.Run request.caller) w' answer → HasRun reply.caller reply.answer w'

-- the slot holds a call that was sent, and that can be answered so
pub record CanReturn (slot : Slot) (answer : Answer) : Type 0 where
  pub sent : holds_call is_sent slot ≡ true
  pub answered : IfSome slot.content (λ p. SuitsPhase p.call.kind (Phase.Ran answer))

-- the reply is one to the agent's call
pub record IsDue (a : AgentState) (reply : Reply) : Type 0 where
  pub caller : reply.caller ≡ a.node
  pub number : reply.number ≡ a.number
  pub can : CanReturn a.node_state.slot reply.answer

-- the reply is one to the call of each agent that gives out this request
abbrev pub IsReplyTo : Request → Reply → Type 0
IsReplyTo request reply = (a : AgentState) → request_of a ≡ Some request → IsDue a reply

-- what is kept of a node once its call came to this phase and returned
abbrev pub returned_by : Setup → ℕ → Phase → StoredNode → StoredNode
returned_by setup i f m = node_after setup (Event.Return i) (phased_state f m)

-- what that return is answered
abbrev pub returned_answer : ℕ → Phase → StoredNode → Answer
returned_answer i f m = node_answer (Event.Return i) (phased_state f m)

-- the agent's call returned with the reply, which is one to it, and for which there was room
pub record IsReturned (old : AgentState) (reply : Reply) (new : AgentState) (taken : AppliedStep) : Type 0 where
  pub room : old.events < old.setup.events_max
  pub due : IsDue old reply
  pub event : taken.event ≡ Event.Return old.node
  pub answer : taken.answer ≡ returned_answer old.node (Phase.Ran reply.answer) old.node_state
  pub after : new ≡ record old {
    events = old.events + 1;
    node_state = returned_by old.setup old.node (Phase.Ran reply.answer) old.node_state;
  }
  pub follows : Follows (HasRun old.node reply.answer) old (Event.Return old.node) taken.answer new

-- why a reply is refused: the agent told as many events as the setup bounds, or else it isn't one to its call
abbrev pub RefusesReply : AgentState → Reply → Refused → Type 0
RefusesReply old reply Refused.Full = old.setup.events_max ≤ old.events
RefusesReply old reply Refused.NoCall = (old.events < old.setup.events_max) × (IsDue old reply → ⊥)
RefusesReply old reply _ = ⊥

-- the callee of the call in the slot, if any, is Down
abbrev pub CalleeIsDown : Slot → World → Type 0
CalleeIsDown slot w = IfSome slot.content (λ p. (vector w p.call.callee).status ≡ Down)

-- the call of this number is the agent's, and under way
pub record IsAwaited (a : AgentState) (number : ℕ) : Type 0 where
  pub number_is : number ≡ a.number
  pub sent : holds_call is_sent a.node_state.slot ≡ true

-- the agent's call, the one of this number, failed, which leads on in every world that the agent may be a part of and
-- where the callee is Down, and returned, which leads on from there; there was room for both events
pub record IsFailed (old : AgentState) (number : ℕ) (new : AgentState) (failed : FailedCall) : Type 0 where
  pub room : old.events + 1 < old.setup.events_max
  pub awaited : IsAwaited old number
  pub lost : failed.lost ≡ Event.Lose old.node
  pub event : failed.returned.event ≡ Event.Return old.node
  pub answer : failed.returned.answer ≡ returned_answer old.node Phase.Failed old.node_state
  pub after : new
      ≡ record old { events = old.events + 2; node_state = returned_by old.setup old.node Phase.Failed old.node_state }
  pub loses : FollowsAt (CalleeIsDown old.node_state.slot) old.setup old.node old.node_state
      (Event.Lose old.node) Answer.Done (phased_state Phase.Failed old.node_state)
  pub follows : FollowsAt Always old.setup old.node (phased_state Phase.Failed old.node_state)
      (Event.Return old.node) failed.returned.answer new.node_state

-- why a failure is refused: there isn't room for two events, or else no such call is under way
abbrev pub RefusesFailure : AgentState → ℕ → Refused → Type 0
RefusesFailure old number Refused.Full = old.setup.events_max ≤ old.events + 1
RefusesFailure old number Refused.NoCall = (old.events + 1 < old.setup.events_max) × (IsAwaited old number → ⊥)
RefusesFailure old number _ = ⊥
