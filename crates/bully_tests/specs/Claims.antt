-- What may be said of a list of events: where it ends, where it is refused, and what holds on the way.
use Rattle.std.specs.Prelude.{◌≡◌, ℕ, ◌+◌, List, [], ◌∷◌, length, map, take, slice_get, Option, Some, None, option_map}
use Rattle.bully_base.specs.declared.node.Status.{Status}
use Rattle.bully_base.specs.Setup.{Setup, IsNode}
use Rattle.bully_calls.specs.declared.call.Answer.{Answer}
use Rattle.bully_calls.specs.declared.call.Phase.{Phase}
use Rattle.bully_calls.specs.Pending.{Pending}
use Rattle.bully_calls.specs.declared.event.Event.{Event}
use Rattle.bully_calls.specs.declared.event.Refused.{Refused}
use Rattle.bully_world.specs.Cause.{cause}
use Rattle.bully_world.specs.Lawful.{IsLawful}
pub use Rattle.bully_world.specs.Place.{call_at}
use Rattle.bully_world.specs.World.{NodeState, World, node_state, vector, pending}

-- what a checked trace prints of a node
pub record PrintedNode : Type 0 where
  pub status : Status
  pub coordinator : Option ℕ
  pub halter : Option ℕ
  pub task : Option (List ℕ)

abbrev pub shown : NodeState → PrintedNode
shown m = record {
  status = m.vector.status;
  coordinator = m.vector.coordinator;
  halter = m.vector.halter;
  task = m.vector.task;
}

-- the same, of node i
abbrev pub shown_at : World → ℕ → PrintedNode
shown_at w i = shown (node_state w i)

abbrev pub phase_of : Pending → Phase
phase_of c = c.phase

-- how far the call in node i's slot has come
abbrev pub phase_at : World → ℕ → Option Phase
phase_at w i = option_map phase_of (pending w i)

-- the nodes, from node 1 on, show these rows
abbrev pub ShowsAs : World → List PrintedNode → Type 0
ShowsAs w rows = map shown w.states ≡ rows

-- the first k events are lawful, and this holds of the world that they lead to
abbrev pub After : Setup → List Event → ℕ → (World → Type 0) → Type 0
After setup events k P = (answers : List Answer) × (w : World) × IsLawful setup (take k events) answers w × P w

-- none of the events is refused at its place
abbrev pub NoneIsRefused : Setup → List Event → Type 0
NoneIsRefused setup events =
    (k : ℕ) (e : Event) → slice_get events k ≡ Some e → After setup events k (λ w. cause setup w k e ≡ None)

-- the events are so many and lawful, none is refused, and in the world that they lead to the nodes show these rows
abbrev pub EndsAs : Setup → List Event → ℕ → List PrintedNode → Type 0
EndsAs setup events count rows =
    (length events ≡ count)
    × NoneIsRefused setup events
    × (answers : List Answer) × (w : World) × IsLawful setup events answers w × ShowsAs w rows

-- the first k events are lawful, and after them the next one is refused for this cause
abbrev pub IsRefusedAt : Setup → List Event → ℕ → Refused → Type 0
IsRefusedAt setup events k refused =
    (e : Event)
    × (slice_get events k ≡ Some e)
    × After setup events k (λ w. cause setup w k e ≡ Some refused)

-- the event after the first k is answered so
abbrev pub IsAnsweredAt : Setup → List Event → ℕ → Answer → Type 0
IsAnsweredAt setup events k a =
    (answers : List Answer) × (w : World) × IsLawful setup (take (k + 1) events) answers w
    × (slice_get answers k ≡ Some a)

-- after so many events the world shows each of these
abbrev pub Goes : {A : Type 0} → Setup → List Event → (World → A) → List (ℕ × A) → Type 0
Goes setup events f [] = Unit {0}
Goes setup events f (stop ∷ stops) = After setup events stop.0 (λ w. f w ≡ stop.1) × Goes setup events f stops

-- the claim of a trace: a node's status and its coordinator
abbrev pub Saw : Setup → World → ℕ → Status → Option ℕ → Type 0
Saw setup w i status coordinator =
    IsNode setup i × ((vector w i).status ≡ status) × ((vector w i).coordinator ≡ coordinator)
