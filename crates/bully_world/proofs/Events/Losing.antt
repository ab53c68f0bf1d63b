-- The laws of a Lose.
use Rattle.std.proofs.Common.{◌≡◌, ◌≢◌, ℕ, true, Option, None, Some, arith, refl, sym, ◌∙◌, ap, not, if◌then◌else◌}
use Rattle.bully_base.specs.declared.node.Status.TheVariants.{Down}
use Rattle.bully_base.specs.Setup.{Setup}
use Rattle.bully_calls.specs.declared.call.Phase.{Phase}
use Rattle.bully_calls.specs.Pending.{Pending, is_failed}
use Rattle.bully_calls.specs.Slot.{pending_of}
use Rattle.bully_calls.specs.declared.event.Event.{Event}
use Rattle.bully_calls.specs.declared.event.Refused.{Refused}
use Rattle.bully_world.specs.Cause.{refuses, first_of, later_refusals, cause, in_phase, callee_is_down}
use Rattle.bully_world.specs.State.{StoredNode, node_state_of, IsKept}
use Rattle.bully_world.specs.StateAfter.{phased_state, node_answer, MayApply}
use Rattle.bully_world.specs.Step.{Step}
use Rattle.bully_world.specs.World.{World, NodeState, node_state, vector, pending, with_node_state}
use Rattle.bully_world.proofs.CallInvariant.{with_phase_fits}
use Rattle.bully_world.proofs.EventLaws.{OwnLaws, IsFree}
use Rattle.bully_world.proofs.KeptLemmas.{kept_later, kept_phased}
use Rattle.bully_world.proofs.SlotLemmas.{content_test, pending_there, call_in_slot, phase_written, phased_tag}

lose_facts : (setup : Setup) (w : World) (count i : ℕ) → cause setup w count (Event.Lose i) ≡ None → (in_phase (λ f. not (is_failed f)) (pending w i) ≡ true) × (callee_is_down w (pending w i) ≡ true)
lose_facts setup w count i n = grind (arith, n)

unfailed : (f : Phase) → not (is_failed f) ≡ true → f ≢ Phase.Failed
unfailed f t e = grind arith

callee_down : (w : World) (q : Option Pending) (c : Pending) → q ≡ Some c → callee_is_down w q ≡ true → (vector w c.call.callee).status ≡ Down
callee_down w q c e t = grind arith

lose_steps : (setup : Setup) (i : ℕ) (w : World) (count : ℕ) (m : StoredNode) → IsFree setup w count (Event.Lose i) m → Step setup w (Event.Lose i) (with_node_state w i (node_state_of (phased_state Phase.Failed m))) (node_answer (Event.Lose i) m)
lose_steps setup i w count m f =
    let facts = lose_facts setup w count i f.none in
    let there = call_in_slot w i m f.here (λ f. not (is_failed f)) facts.0 in
    let is = pending_there w i m f.here there.0 there.1 in
    (pending_of m.generation there.0, is, unfailed there.0.phase there.2, callee_down w (pending w i) (pending_of m.generation there.0) is facts.1, phase_written w i m f.here there.0 Phase.Failed there.1, refl)

lose_may : (setup : Setup) (i : ℕ) (w : World) (count : ℕ) (m : StoredNode) → IsFree setup w count (Event.Lose i) m → IsKept setup count i m → MayApply setup (Event.Lose i) m
lose_may setup i w count m f kept =
    content_test (λ f. not (is_failed f)) m.generation m.slot.content (ap (λ (x : NodeState). in_phase (λ f. not (is_failed f)) x.pending) (sym f.here) ∙ (lose_facts setup w count i f.none).0)

pub lose_laws : (setup : Setup) (i : ℕ) → OwnLaws setup (Event.Lose i)
lose_laws setup i = record {
  computed = λ w w' a. ((λ t. grind (arith, t)), (λ s. grind (arith, s)));
  free = λ w w' count a all room s. grind (arith, s, room, (all.fits i).a_node, (all.fits i).down_free);
  fits = λ w w' a s all. rw s.4 (with_phase_fits setup w i s.0 Phase.Failed all s.1 tt);
  writes = λ w w' a s. (_, s.4);
  steps = lose_steps setup i;
  may = lose_may setup i;
  kept = λ count m k. kept_later setup count i (phased_state Phase.Failed m) (kept_phased setup count i m Phase.Failed k);
  generation = λ w m. omega arith;
  tag = λ m stays. phased_tag Phase.Failed m;
}

-- why one is refused at a node that is up, read off its node state
pub lose-cause : (setup : Setup) (w : World) (count i : ℕ) (m : NodeState) → node_state w i ≡ m → first_of (refuses setup w count (Event.Lose i)) later_refusals
    ≡ (if not (in_phase (λ f. not (is_failed f)) m.pending) then Some Refused.NoCall else if not (callee_is_down w m.pending) then Some Refused.CalleeUp else None)
lose-cause setup w count i m here = grind (arith, here)
