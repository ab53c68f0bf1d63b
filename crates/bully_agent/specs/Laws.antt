-- The laws of nodes on their own: what a step leaves of the others, and what they agree on.
use Rattle.std.specs.Prelude.{◌≡◌, ◌≢◌, ◌<◌, ◌==◌, ℕ, Bool, false, List, [], ◌∷◌, ◌++◌, length, IsSome, if◌then◌else◌}
use Rattle.bully_base.specs.declared.node.Status.TheVariants.{Normal}
use Rattle.bully_base.specs.Setup.{Setup, IsNode}
use Rattle.bully_calls.specs.declared.call.Answer.{Answer}
use Rattle.bully_handlers.specs.Vector.{Vector}
use Rattle.bully_calls.specs.declared.event.Event.{Event}
use Rattle.bully_world.specs.Lawful.{IsLawful}
use Rattle.bully_world.specs.NodeInvariant.{TakesPart, WorldInvariant}
use Rattle.bully_world.specs.Place.{place_of}
use Rattle.bully_world.specs.State.{StoredNode, empties_slot}
use Rattle.bully_world.specs.Step.{Step}
use Rattle.bully_world.specs.World.{World}
use Rattle.bully_agent.specs.Calls.{HasRun}
use Rattle.bully_agent.specs.Part.{IsPart}

-- what is kept of every node but the one at which a step takes place is a part of the world that comes
abbrev pub KeepsOthers : Type 0
KeepsOthers = (setup : Setup) (w w' : World) (e : Event) (a : Answer) (k : ℕ) (m : StoredNode)
    → Step setup w e w' a → k ≢ place_of w e → IsPart setup k m w → IsPart setup k m w'

-- what is kept of each node is a part of the world
abbrev pub AreParts : Setup → (ℕ → StoredNode) → World → Type 0
AreParts setup kept w = (k : ℕ) → IsNode setup k → IsPart setup k (kept k) w

-- the same, with node i's written anew
abbrev pub with_part : (ℕ → StoredNode) → ℕ → StoredNode → ℕ → StoredNode
with_part kept i next k = if k == i then next else kept k

-- Where a lawful list leads to a world of which all nodes are parts, and with room for one event more: a step at node
-- i, after which what comes of it is a part of the world, makes the list longer by one, and lawful still, and all nodes
-- are parts of the world to which it leads.
abbrev pub GroupGoesOn : Type 0
GroupGoesOn = (setup : Setup) (events : List Event) (answers : List Answer) (w w' : World) (kept : ℕ
    → StoredNode) (i : ℕ) (e : Event) (a : Answer) (next : StoredNode)
    → IsLawful setup events answers w → length events < setup.events_max → AreParts setup kept w
    → Step setup w e w' a → place_of w e ≡ i → IsPart setup i next w'
    → IsLawful setup (events ++ e ∷ []) (answers ++ a ∷ []) w' × AreParts setup (with_part kept i next) w'

-- the event ends node i's call: it is its own loss, or empties its slot
abbrev pub ends_call : Event → ℕ → Bool
ends_call (Event.Lose j) i = j == i
ends_call e i = empties_slot e i

-- A call that ran with an answer is one that ran with it, until such an event of its caller.
abbrev pub RunsStay : Type 0
RunsStay = (setup : Setup) (w w' : World) (e : Event) (a : Answer) (i : ℕ) (answer : Answer)
    → WorldInvariant setup w → Step setup w e w' a → ends_call e i ≡ false → HasRun i answer w → HasRun i answer w'

-- both have a coordinator, and the same, where both take part; both have a task, and the same, where both are Normal
pub record Agree (v u : Vector) : Type 0 where
  pub has_coordinator : TakesPart v → IsSome v.coordinator
  pub same_coordinator : TakesPart v → TakesPart u → v.coordinator ≡ u.coordinator
  pub has_task : v.status ≡ Normal → IsSome v.task
  pub same_task : v.status ≡ Normal → u.status ≡ Normal → v.task ≡ u.task

-- any two nodes that are parts of a world that a lawful list leads to agree; 'any two' is also a node and itself
abbrev pub PartsAgree : Type 0
PartsAgree = (setup : Setup) (events : List Event) (answers : List Answer) (w : World) → IsLawful setup events answers w
    → (i j : ℕ) (m n : StoredNode) → IsPart setup i m w → IsPart setup j n w → Agree m.vector.vector n.vector.vector
