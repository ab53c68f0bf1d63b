-- What an agent keeps of its node, and the events that it takes by itself.
use Rattle.std.specs.Prelude.{◌≡◌, ◌<◌, ◌+◌, ℕ, List, Option, None, is_some, if◌then◌else◌}
use Rattle.bully_base.specs.Setup.{Setup, IsNode}
use Rattle.bully_calls.specs.declared.call.Answer.{Answer}
use Rattle.bully_handlers.specs.Vector.{empty_vector}
use Rattle.bully_steps.specs.declared.point.Point.TheVariants.{Idle}
use Rattle.bully_steps.specs.declared.point.Want.{Want}
use Rattle.bully_steps.specs.Point.{offered}
use Rattle.bully_calls.specs.declared.event.Event.{Event}
use Rattle.bully_calls.specs.declared.event.Refused.{Refused}
use Rattle.bully_calls.specs.declared.kind.EventKind.{EventKind}
use Rattle.bully_calls.specs.declared.kind.NodeEventKind.{NodeEventKind}
use Rattle.bully_world.specs.declared.take.AppliedStep.{AppliedStep}
use Rattle.bully_world.specs.NodeInvariant.{NodeInvariant}
use Rattle.bully_world.specs.State.{StoredNode, node_state_of, IsKept}
use Rattle.bully_world.specs.StateAfter.{down_state, node_after, node_answer}
use Rattle.bully_world.specs.World.{World, NodeState}
use Rattle.bully_agent.specs.Part.{IsPart, FollowsAt, IsRefusedAt, Always}

-- the setup, the node, how many events the agent told, the number of its last call, and what it keeps of the node
pub record AgentState : Type 0 where
  pub setup : Setup
  pub node : ℕ
  pub events : ℕ
  pub number : ℕ
  pub node_state : StoredNode

-- what is kept of node i, which told so many events, whatever the world is
pub record IsAgentOf (setup : Setup) (i events : ℕ) (m : StoredNode) : Type 0 where
  pub is_node : IsNode setup i
  pub fits : NodeInvariant setup i (node_state_of m)
  pub kept : IsKept setup events i m

-- the agent may be its node in this world
abbrev pub PartOf : AgentState → World → Type 0
PartOf a w = IsPart a.setup a.node a.node_state w

-- in every world that the agent may be a part of, and in which the premise holds, the event leads on with this answer,
-- and the new agent is a part of the world that comes
abbrev pub Follows : (World → Type 0) → AgentState → Event → Answer → AgentState → Type 0
Follows Premise old e answer new = FollowsAt Premise old.setup old.node old.node_state e answer new.node_state

-- in every such world this is why the event is refused, with as many events applied as the agent told
abbrev pub IsRefused : (World → Type 0) → AgentState → Event → Refused → Type 0
IsRefused Premise old e why = IsRefusedAt Premise old.setup old.node old.events old.node_state e why

-- an agent of node i, which is Down and has kept this task, with so many events told before
abbrev pub new_agent : Setup → ℕ → ℕ → Option (List ℕ) → AgentState
new_agent setup i events task =
    record { setup = setup; node = i; events = events; number = events; node_state = down_state setup.partitions task }

-- what a world has of such a node
abbrev pub down_node_state : Option (List ℕ) → NodeState
down_node_state task = record { vector = record empty_vector { task = task }; point = Idle; pending = None }

-- what it wants to do next: to await where a call is in its slot, else what its point offers
abbrev pub wanted : AgentState → Want
wanted a = if is_some a.node_state.slot.content then Want.Await else
    offered a.setup a.node_state.vector.vector.coordinator a.node_state.point

-- an event of this kind is one that a node takes by itself: it needs no other node, no request and no reply
abbrev pub IsAlone : EventKind → Type 0
IsAlone (EventKind.Node NodeEventKind.Run) = ⊥
IsAlone (EventKind.Node NodeEventKind.Lose) = ⊥
IsAlone (EventKind.Node NodeEventKind.Return) = ⊥
IsAlone kind = Unit {0}

-- the number of the last call after the event: a call has the number of events told before its start
abbrev pub number_after : Event → ℕ → ℕ → ℕ
number_after (Event.Start i) events number = events
number_after e events number = number

-- the agent after such an event
abbrev pub agent_after : Event → AgentState → AgentState
agent_after e a = record a {
  events = a.events + 1;
  number = number_after e a.events a.number;
  node_state = node_after a.setup e a.node_state;
}

-- the agent took the event, for which there was room: it tells event and answer, is what the event makes of it, and the
-- event leads on in every world that it may be a part of
pub record IsTaken (old : AgentState) (e : Event) (new : AgentState) (taken : AppliedStep) : Type 0 where
  pub room : old.events < old.setup.events_max
  pub event : taken.event ≡ e
  pub answer : taken.answer ≡ node_answer e old.node_state
  pub after : new ≡ agent_after e old
  pub follows : Follows Always old e taken.answer new
