-- What is read of the call in a node's slot, and what its next phase leaves.
use Rattle.std.proofs.Common.{◌≡◌, ℕ, Bool, true, false, Option, Some, None, arith, refl, sym, ◌∙◌, ap, option_map}
use Rattle.std.specs.Option.{option_map_or}
use Rattle.bully_calls.specs.declared.call.Phase.{Phase}
use Rattle.bully_calls.specs.Slot.{SlotCall, pending_of, phased}
use Rattle.bully_world.specs.Cause.{in_phase}
use Rattle.bully_world.specs.State.{StoredNode, node_state_of, tag_in, tag_of_call}
use Rattle.bully_world.specs.StateAfter.{phased_state, with_content}
use Rattle.bully_world.specs.Step.{with_phase, emptied}
use Rattle.bully_world.specs.World.{World, NodeState, node_state, pending, with_node_state}

content_there : (test : Phase → Bool) (g : ℕ) (q : Option SlotCall) → in_phase test (option_map (pending_of g) q) ≡ true → (p : SlotCall) × (q ≡ Some p) × (test p.phase ≡ true)
content_there test g None t = absurd (grind arith)
content_there test g (Some p) t = (p, refl, t)

-- a test of the phase, of the call in the slot
pub content_test : (test : Phase → Bool) (g : ℕ) (q : Option SlotCall) → in_phase test (option_map (pending_of g) q) ≡ true → option_map_or (λ p. test p.phase) q false ≡ true
content_test test g None t = absurd (cc t)
content_test test g (Some p) t = t

pub phased_is : (m : StoredNode) (p : SlotCall) (f : Phase) → m.slot.content ≡ Some p → node_state_of (phased_state f m) ≡ record (node_state_of m) { pending = Some (record (pending_of m.generation p) { phase = f }) }
phased_is m p f e = grind (arith, e)

pub phased_tag : (f : Phase) (m : StoredNode) → tag_in (phased_state f m) ≡ tag_in m
phased_tag f m = by_content m.slot.content
  where
    by_content : (q : Option SlotCall) → option_map tag_of_call (option_map (phased f) q) ≡ option_map tag_of_call q
    by_content None = refl
    by_content (Some p) = refl

module _ (w : World) (i : ℕ) (m : StoredNode) (here : node_state w i ≡ node_state_of m) where
  -- node i's pending call is the one in its slot
  pub pending_there : (p : SlotCall) → m.slot.content ≡ Some p → pending w i ≡ Some (pending_of m.generation p)
  pending_there p e = ap (λ (q : NodeState). q.pending) here ∙ ap (option_map (pending_of m.generation)) e

  -- a call that passes the test is in the slot
  pub call_in_slot : (test : Phase → Bool) → in_phase test (pending w i) ≡ true → (p : SlotCall) × (m.slot.content ≡ Some p) × (test p.phase ≡ true)
  call_in_slot test t = content_there test m.generation m.slot.content (ap (λ (q : NodeState). in_phase test q.pending) (sym here) ∙ t)

  -- the writing of a phase
  pub phase_written : (p : SlotCall) (f : Phase) → m.slot.content ≡ Some p → with_node_state w i (node_state_of (phased_state f m)) ≡ with_phase w i (pending_of m.generation p) f
  phase_written p f e =
      ap (with_node_state w i) (phased_is m p f e ∙ ap (λ (q : NodeState). record q { pending = Some (record (pending_of m.generation p) { phase = f }) }) (sym here))

  -- the emptying of the slot
  pub slot_emptied : with_node_state w i (node_state_of (with_content None m)) ≡ emptied w i
  slot_emptied = ap (λ (q : NodeState). with_node_state w i (record q { pending = None })) (sym here)
