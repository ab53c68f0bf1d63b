-- What callers see of a group's world, and the world of the definitions that it stands for.
use Rattle.std.specs.Prelude.{◌≡◌, ◌≤◌, ◌<◌, ◌+◌, ◌==◌, ◌&&◌, if◌then◌else◌, ℕ, Bool, true, false, List, map, length}
use Rattle.std.specs.Prelude.{Option, Some, None, IfSome, option_map, replicate}
use Rattle.bully_base.specs.Places.{at_node}
use Rattle.bully_base.specs.Setup.{Setup, IsNode}
use Rattle.bully_calls.specs.declared.call.Answer.{Answer}
use Rattle.bully_calls.specs.declared.call.CallKind.{CallKind}
use Rattle.bully_calls.specs.declared.call.Tag.{Tag}
use Rattle.bully_calls.specs.declared.call.CallKind.TheVariants.{AreYouUp, AreYouNormal, Halt, NewCoordinator, Ready}
use Rattle.bully_calls.specs.Pending.{Pending}
use Rattle.bully_calls.specs.Slot.{SlotCall, Slot, pending_in}
use Rattle.bully_handlers.specs.Vector.{StoredVector, empty_vector}
use Rattle.bully_steps.specs.declared.point.Point.{Point}
use Rattle.bully_steps.specs.declared.point.Point.TheVariants.{Idle}
use Rattle.bully_calls.specs.declared.event.Event.{Event}
use Rattle.bully_calls.specs.declared.event.Refused.{Refused}
use Rattle.bully_world.specs.Cause.{cause}
use Rattle.bully_world.specs.Lawful.{IsLawful}
use Rattle.bully_world.specs.Step.{Step}
use Rattle.bully_world.specs.World.{NodeState, World, pending, is_sent_to}

-- what is kept of one node: its generation tells a live call from an orphan
pub record StoredNode : Type 0 where
  pub vector : StoredVector
  pub point : Point
  pub slot : Slot
  pub generation : ℕ

pub record WorldState : Type 0 where
  pub setup : Setup
  pub events : ℕ
  pub states : List StoredNode

-- a new node's, with room for a table of so many partitions
abbrev pub empty_state : ℕ → StoredNode
empty_state room = record {
  vector = record { vector = empty_vector; room = room };
  point = Idle;
  slot = record { content = None; room = room };
  generation = 0;
}

-- what is kept of node i
abbrev pub kept_of : List StoredNode → ℕ → StoredNode
kept_of states i = at_node (empty_state 0) states i

abbrev pub state_at : WorldState → ℕ → StoredNode
state_at w i = kept_of w.states i

abbrev pub node_state_of : StoredNode → NodeState
node_state_of m = record { vector = m.vector.vector; point = m.point; pending = pending_in m.generation m.slot }

abbrev pub world_in : List StoredNode → World
world_in states = record { states = map node_state_of states }

-- the world that it stands for
abbrev pub world_of : WorldState → World
world_of w = world_in w.states

-- why the event is refused there
abbrev pub cause_in : WorldState → Event → Option Refused
cause_in w e = cause w.setup (world_of w) w.events e

-- a lawful list of as many events as were counted leads to the world
pub record IsReached (w : WorldState) : Type 0 where
  pub applied : List Event
  pub answers : List Answer
  pub lawful : IsLawful w.setup applied answers (world_of w)
  pub counted : length applied ≡ w.events

-- how what is kept of node i goes with the setup and with the events so far
pub record IsKept (setup : Setup) (events i : ℕ) (m : StoredNode) : Type 0 where
  pub vector_room : m.vector.room ≡ setup.partitions
  pub slot_room : m.slot.room ≡ setup.partitions
  pub caller : IfSome m.slot.content (λ p. p.tag.caller ≡ i)
  pub tag : IfSome m.slot.content (λ p. p.tag.generation ≤ m.generation)
  pub generation : m.generation ≤ events

abbrev pub AllKept : Setup → ℕ → List StoredNode → Type 0
AllKept setup events states = (i : ℕ) → IsNode setup i → IsKept setup events i (kept_of states i)

-- what every world keeps
pub record IsWorld (w : WorldState) : Type 0 where
  pub count : length w.states ≡ w.setup.nodes
  pub kept : AllKept w.setup w.events w.states
  pub reached : IsReached w

abbrev pub is_halt : CallKind → Bool
is_halt AreYouUp = false
is_halt AreYouNormal = false
is_halt Halt = true
is_halt NewCoordinator = false
is_halt Ready = false

-- the pending call is a Halt of node j
abbrev pub halts : ℕ → Option Pending → Bool
halts j None = false
halts j (Some c) = is_halt c.call.kind && (c.call.callee == j)

-- the event raises node j's generation: it is a crash of j, or the run of a Halt at j
abbrev pub raises : World → Event → ℕ → Bool
raises w (Event.Crash i) j = i == j
raises w (Event.Run i) j = halts j (pending w i)
raises w e j = false

-- the tag of the call in the slot
abbrev pub tag_of_call : SlotCall → Tag
tag_of_call p = p.tag

abbrev pub tag_in : StoredNode → Option Tag
tag_in m = option_map tag_of_call m.slot.content

-- the event empties node j's slot: it is j's own Return, Drop or Crash
abbrev pub empties_slot : Event → ℕ → Bool
empties_slot (Event.Return i) j = i == j
empties_slot (Event.Drop i) j = i == j
empties_slot (Event.Crash i) j = i == j
empties_slot e j = false

-- it fills or empties it
abbrev pub changes_slot : Event → ℕ → Bool
changes_slot (Event.Start i) j = i == j
changes_slot e j = empties_slot e j

-- the event is one step, from the world that is stood for before to the one after
abbrev pub StepsTo : WorldState → Event → WorldState → Answer → Type 0
StepsTo before e after answer = Step before.setup (world_of before) e (world_of after) answer

-- each node's generation rises by one where the event raises it, and else stays
abbrev pub RaisesGenerations : Event → WorldState → WorldState → Type 0
RaisesGenerations e before after =
    (i : ℕ)
    → (state_at after i).generation ≡ (state_at before i).generation + (if raises (world_of before) e i then 1 else 0)

abbrev pub KeepsGenerations : WorldState → WorldState → Type 0
KeepsGenerations before after = (i : ℕ) → (state_at after i).generation ≡ (state_at before i).generation

-- the tag in each slot that the event neither fills nor empties stays
abbrev pub KeepsTags : Event → WorldState → WorldState → Type 0
KeepsTags e before after = (i : ℕ) → changes_slot e i ≡ false → tag_in (state_at after i) ≡ tag_in (state_at before i)

-- the event was applied and answered so: it is one step, for which there was room, and is counted; generations rise as
-- it says, the tags stay that it doesn't change, and the setup stays
pub record IsApplied (before : WorldState) (e : Event) (after : WorldState) (answer : Answer) : Type 0 where
  pub step : StepsTo before e after answer
  pub room : before.events < before.setup.events_max
  pub counted : after.events ≡ before.events + 1
  pub generations : RaisesGenerations e before after
  pub tags : KeepsTags e before after
  pub setup : after.setup ≡ before.setup

-- as many events as the setup bounds were applied
abbrev pub IsFull : WorldState → Type 0
IsFull w = w.setup.events_max ≤ w.events

-- node i's call waits for node j: it was sent there and didn't run yet
abbrev pub waits_for : WorldState → ℕ → ℕ → Bool
waits_for w i j = is_sent_to j (pending (world_of w) i)

abbrev pub NobodyWaits : WorldState → ℕ → Type 0
NobodyWaits w j = (i : ℕ) → waits_for w i j ≡ false

-- nobody below the caller waits for node j
abbrev pub NobodyWaitsBelow : WorldState → ℕ → ℕ → Type 0
NobodyWaitsBelow w j caller = (i : ℕ) → i < caller → waits_for w i j ≡ false

-- what a new world keeps
abbrev pub new_states : Setup → List StoredNode
new_states setup = replicate setup.nodes (empty_state setup.partitions)

abbrev pub first_state : Setup → WorldState
first_state setup = record { setup = setup; events = 0; states = new_states setup }
