-- What the shape of a world gives its readers of turns.
use Rattle.std.proofs.Common.{◌≡◌, ◌≤◌, ℕ, true, Option, Some, None, arith, refl, subst, option_map}
use Rattle.bully_base.specs.Setup.{Setup}
use Rattle.bully_calls.specs.declared.call.Call.{Call}
use Rattle.bully_calls.specs.Pending.{Pending}
use Rattle.bully_calls.specs.Slot.{SlotCall, pending_of}
use Rattle.bully_handlers.specs.Vector.{Vector}
use Rattle.bully_steps.specs.declared.point.Point.{Point}
use Rattle.bully_steps.specs.declared.point.Point.TheVariants.{Idle, Asking, Halting, Announcing, Planning, Readying, Checking, Inquiring}
use Rattle.bully_steps.specs.ProcedureState.{IsCall, SuitsInquiry}
use Rattle.bully_steps.specs.Point.{offered}
use Rattle.bully_world.specs.Cause.{is_live_in}
use Rattle.bully_world.specs.NodeInvariant.{NodeInvariant, WorldInvariant, SuitsSetup, SuitsPoint, SuitsPending}
use Rattle.bully_world.specs.State.{WorldState, IsReached, state_at, node_state_of, world_of}
use Rattle.bully_world.proofs.WorldIn.{node_state-world_in}
use Rattle.bully_world.proofs.NodeInvariantLemmas.{lawful_fits}

-- what holds of every node of a world that is reached
pub reached_fits : (w : WorldState) → IsReached w → WorldInvariant w.setup (world_of w)
reached_fits w is = lawful_fits w.setup is.applied is.answers (world_of w) is.lawful

pub node_fits : (w : WorldState) → IsReached w → (i : ℕ) → NodeInvariant w.setup i (node_state_of (state_at w i))
node_fits w is i = subst (NodeInvariant w.setup i) (node_state-world_in w.states i) ((reached_fits w is).fits i)

-- at Inquiring the coordinator is another node of the setup
pub suits_inquiry : (setup : Setup) (i : ℕ) (v : Vector) (p : Point) → SuitsSetup setup i v → SuitsPoint i v p → SuitsInquiry setup i v.coordinator p
suits_inquiry setup i v Idle s h = tt
suits_inquiry setup i v (Asking k) s h = tt
suits_inquiry setup i v (Halting k) s h = tt
suits_inquiry setup i v (Announcing rest) s h = tt
suits_inquiry setup i v Planning s h = tt
suits_inquiry setup i v (Readying rest) s h = tt
suits_inquiry setup i v (Checking k) s h = tt
suits_inquiry setup i v Inquiring s h = by_coordinator v.coordinator refl
  where
    by_coordinator : (k : Option ℕ) → v.coordinator ≡ k → SuitsInquiry setup i k Inquiring
    by_coordinator None e = absurd (grind (arith, e, h))
    by_coordinator (Some k) e = (s.coordinator k e, λ same. grind (arith, e, h, same))

-- a live call is one that the point offers
pub live_offered : (setup : Setup) (i : ℕ) (v : Vector) (p : Point) (q : Option Pending) → SuitsPending setup i v p q → is_live_in q ≡ true → IsCall (offered setup v.coordinator p)
live_offered setup i v p None h live = absurd (grind (arith, live))
live_offered setup i v p (Some c) h live = rw (h.live live) tt

-- the call in a slot goes to a node of the setup
pub call_within : (setup : Setup) (i g : ℕ) (v : Vector) (p : Point) (q : Option SlotCall) (call : Call) → SuitsPending setup i v p (option_map (pending_of g) q) → option_map (λ (x : SlotCall). x.call) q ≡ Some call → call.callee ≤ setup.nodes
call_within setup i g v p None call h e = absurd (grind (arith, e))
call_within setup i g v p (Some x) call h e = grind (arith, e, h.to_node)
