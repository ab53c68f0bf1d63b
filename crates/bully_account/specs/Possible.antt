-- What may come next at a node: the kinds of event that nothing refuses there.
use Rattle.std.specs.Prelude.{◌≡◌, ◌↔◌, ℕ, Bool, true, List, None, filter, is_none}
use Rattle.std.specs.Option.{option_map_or}
use Rattle.bully_calls.specs.declared.event.Event.{Event}
use Rattle.bully_calls.specs.Events.{event_of_kind, every_event_kind, kind_of, node_of}
use Rattle.bully_world.specs.State.{WorldState, cause_in}
use Rattle.bully_calls.specs.declared.kind.EventKind.{EventKind}

-- some event of node i is of this kind, and nothing refuses it there
pub record IsPossible (w : WorldState) (i : ℕ) (event_kind : EventKind) : Type 0 where
  pub event : Event
  pub node : node_of event ≡ i
  pub is : kind_of event ≡ event_kind
  pub free : cause_in w event ≡ None

-- the test tells exactly which kinds of event of node i are possible
abbrev pub TellsPossible : WorldState → ℕ → (EventKind → Bool) → Type 0
TellsPossible w i test = (event_kind : EventKind) → (test event_kind ≡ true) ↔ IsPossible w i event_kind

-- these are the kinds of event of node i that are possible, each once and in their order
abbrev pub ArePossible : WorldState → ℕ → List EventKind → Type 0
ArePossible w i event_kinds = (test : EventKind → Bool) × TellsPossible w i test
    × (event_kinds ≡ filter test every_event_kind)

-- nothing refuses the event of this kind; a plan is judged by whether some table can be planned
abbrev pub passes : WorldState → ℕ → Bool → EventKind → Bool
passes w i can_plan event_kind = option_map_or (λ e. is_none (cause_in w e)) (event_of_kind event_kind i) can_plan
