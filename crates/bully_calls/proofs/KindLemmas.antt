-- What an event is, and its node, tell the event, but for the table of a plan.
use Rattle.std.proofs.Common.{◌≡◌, ℕ, Option, Some, None, refl, IfSome}
use Rattle.bully_calls.specs.declared.event.Event.{Event}
use Rattle.bully_calls.specs.declared.kind.EventKind.{EventKind}
use Rattle.bully_calls.specs.declared.kind.NodeEventKind.{NodeEventKind}
use Rattle.bully_calls.specs.Events.{event_at, event_of_kind, kind_of, node_of}

pub kind-node : (kind : NodeEventKind) (i : ℕ) → node_of (event_at kind i) ≡ i
kind-node NodeEventKind.Recover i = refl
kind-node kind i = refl

pub kind-kind : (kind : NodeEventKind) (i : ℕ) → kind_of (event_at kind i) ≡ EventKind.Node kind
kind-kind NodeEventKind.Recover i = refl
kind-kind kind i = refl

-- an event is the one that its kind names of its node, if that names one
its-kind : (f : Event) → IfSome (event_of_kind (kind_of f) (node_of f)) (λ e. f ≡ e)
its-kind (Event.Plan j table) = tt
its-kind f = refl

-- an event of node i that is of this kind is the one that the kind names
pub same_event : (i : ℕ) (event_kind : EventKind) (f : Event) → node_of f ≡ i → kind_of f ≡ event_kind → IfSome (event_of_kind event_kind i) (λ e. f ≡ e)
same_event i event_kind f at is = rw (← at, ← is) (its-kind f)

-- what a kind of event names of node i: an event of it that is of the kind; and nothing of a plan
abbrev pub Names : EventKind → ℕ → Option Event → Type 0
Names event_kind i None = event_kind ≡ EventKind.Plan
Names event_kind i (Some e) = (node_of e ≡ i) × (kind_of e ≡ event_kind)

pub names : (event_kind : EventKind) (i : ℕ) → Names event_kind i (event_of_kind event_kind i)
names (EventKind.Node kind) i = (kind-node kind i, kind-kind kind i)
names EventKind.Plan i = refl
