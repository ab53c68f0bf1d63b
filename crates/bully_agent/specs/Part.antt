-- Of what worlds a node on its own may be a part, and what follows there.
use Rattle.std.specs.Prelude.{◌≡◌, ◌⊎◌, ℕ, true, Option, Some}
use Rattle.bully_base.specs.Setup.{Setup}
use Rattle.bully_calls.specs.declared.call.Answer.{Answer}
use Rattle.bully_calls.specs.declared.call.Phase.{Phase}
use Rattle.bully_calls.specs.Pending.{is_sent}
use Rattle.bully_calls.specs.Slot.{holds_call}
use Rattle.bully_calls.specs.declared.event.Event.{Event}
use Rattle.bully_calls.specs.declared.event.Refused.{Refused}
use Rattle.bully_world.specs.Cause.{cause}
use Rattle.bully_world.specs.NodeInvariant.{WorldInvariant}
use Rattle.bully_world.specs.State.{StoredNode, node_state_of}
use Rattle.bully_world.specs.StateAfter.{phased_state}
use Rattle.bully_world.specs.Step.{Step}
use Rattle.bully_world.specs.World.{World, NodeState, node_state}

-- the call in the node's slot was sent; in the world it ran with this answer, and the reply is under way
pub record IsUnderWay (m : StoredNode) (x : NodeState) : Type 0 where
  pub answer : Answer
  pub sent : holds_call is_sent m.slot ≡ true
  pub ran : x ≡ node_state_of (phased_state (Phase.Ran answer) m)

-- the world's node state is what is kept of the node, but for a reply that is under way
abbrev pub IsLike : StoredNode → NodeState → Type 0
IsLike m x = (x ≡ node_state_of m) ⊎ IsUnderWay m x

-- what is kept is node i of a world whose nodes all fit
pub record IsPart (setup : Setup) (i : ℕ) (m : StoredNode) (w : World) : Type 0 where
  pub fits : WorldInvariant setup w
  pub like : IsLike m (node_state w i)

-- a premise that is met in every world
abbrev pub Always : World → Type 0
Always w = Unit {0}

-- In every world of which m is node i, and in which the premise holds, the event leads on with this answer, and what
-- comes of m is node i of the world to which it leads.
abbrev pub FollowsAt : (World → Type 0) → Setup → ℕ → StoredNode → Event → Answer → StoredNode → Type 0
FollowsAt Premise setup i m e answer next =
    (w : World) → IsPart setup i m w → Premise w → (w' : World) × Step setup w e w' answer × IsPart setup i next w'

-- In every such world this is why the event is refused, or that it isn't, with so many events applied.
abbrev pub CauseAt : (World → Type 0) → Setup → ℕ → ℕ → StoredNode → Event → Option Refused → Type 0
CauseAt Premise setup i count m e why = (w : World) → IsPart setup i m w → Premise w → cause setup w count e ≡ why

abbrev pub IsRefusedAt : (World → Type 0) → Setup → ℕ → ℕ → StoredNode → Event → Refused → Type 0
IsRefusedAt Premise setup i count m e why = CauseAt Premise setup i count m e (Some why)
