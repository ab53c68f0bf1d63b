-- The laws of a Return: an orphan's outcome is discarded, a live one's moves the point.
use Rattle.std.proofs.Common.{◌≡◌, ◌≢◌, ◌+◌, ℕ, Bool, true, false, Option, None, Some, arith, refl, sym, ◌∙◌, ap, subst, not, ◌==◌, option_map, option_and_then, IsSome, if◌then◌else◌}
use Rattle.std.specs.Option.{option_map_or}
use Rattle.std.proofs.lemmas.Bool.Decides.{nat_tests}
use Rattle.bully_base.specs.Setup.{Setup}
use Rattle.bully_calls.specs.declared.call.Answer.{Answer}
use Rattle.bully_calls.specs.declared.call.CallKind.{CallKind}
use Rattle.bully_calls.specs.declared.call.Outcome.{Outcome}
use Rattle.bully_calls.specs.declared.call.Phase.{Phase}
use Rattle.bully_calls.specs.Pending.{Pending, outcome_of, answer_of, is_sent}
use Rattle.bully_calls.specs.Slot.{SlotCall, pending_of}
use Rattle.bully_handlers.specs.Vector.{Vector}
use Rattle.bully_steps.specs.declared.point.Point.{Point}
use Rattle.bully_steps.specs.NextPoint.{next_point, next_vector}
use Rattle.bully_calls.specs.declared.event.Event.{Event}
use Rattle.bully_calls.specs.declared.event.Refused.{Refused}
use Rattle.bully_world.specs.Cause.{refuses, first_of, later_refusals, cause, in_phase}
use Rattle.bully_world.specs.NodeInvariant.{NodeInvariant, WorldInvariant, SuitsCall, SuitsPhase, SuitsPending}
use Rattle.bully_world.specs.State.{StoredNode, node_state_of, IsKept}
use Rattle.bully_world.specs.StateAfter.{proceeded_state, returned_state, node_after_return, return_answer, with_content, MayApply}
use Rattle.bully_world.specs.Step.{Step, Returns}
use Rattle.bully_world.specs.StepOf.{outcome_step}
use Rattle.bully_world.specs.World.{World, NodeState, node_state, vector, point, pending, with_node_state}
use Rattle.bully_world.proofs.CallInvariant.{emptied_fits}
use Rattle.bully_world.proofs.EventLaws.{OwnLaws, IsFree}
use Rattle.bully_world.proofs.KeptLemmas.{kept_later, kept_empty, kept_emptied, kept_proceeded}
use Rattle.bully_world.proofs.NodeStateLemmas.{node_of_pending, call_of_pending}
use Rattle.bully_world.proofs.MoveInvariant.{has_point, proceeds_fits}
use Rattle.bully_world.proofs.SlotLemmas.{pending_there, call_in_slot, slot_emptied}

return_facts : (setup : Setup) (w : World) (count i : ℕ) → cause setup w count (Event.Return i) ≡ None → in_phase (λ f. not (is_sent f)) (pending w i) ≡ true
return_facts setup w count i n = grind (arith, n)

-- a call's return empties the slot
returned_is : (setup : Setup) (i : ℕ) (o : Outcome) (m : StoredNode) (q : NodeState) (p : Point) → q ≡ node_state_of m → next_point setup i q.vector.up q.point o ≡ Some p → node_state_of (proceeded_state setup i o (with_content None m)) ≡ record { vector = next_vector i q.point o q.vector; point = p; pending = None }
returned_is setup i o m q p is e = grind (arith, is, e)

-- a call that isn't sent any more has an outcome
outcome_there : (kind : CallKind) (f : Phase) → SuitsPhase kind f → not (is_sent f) ≡ true → (o : Outcome) × (outcome_of f ≡ Some o)
outcome_there kind Phase.Sent s t = absurd (grind arith)
outcome_there kind (Phase.Ran Answer.Yes) s t = (Outcome.Yes, refl)
outcome_there kind (Phase.Ran Answer.No) s t = (Outcome.No, refl)
outcome_there kind (Phase.Ran Answer.Done) s t = elim s [ ]
outcome_there kind (Phase.Ran Answer.Failed) s t = elim s [ ]
outcome_there kind (Phase.Ran Answer.Discarded) s t = elim s [ ]
outcome_there kind Phase.Failed s t = (Outcome.Failed, refl)

-- a live call's outcome leads somewhere
leads_on : (setup : Setup) (i : ℕ) (v : Vector) (p : Point) (c : Pending) (o : Outcome) → SuitsCall setup i v p c → c.is_live ≡ true → outcome_of c.phase ≡ Some o → next_point setup i v.up p o ≡ None → ⊥
leads_on setup i v p c o fits live done none = grind (arith, fits.live live, fits.phase, done, none)

module _ (setup : Setup) (i : ℕ) (w : World) (count : ℕ) (m : StoredNode) (f : IsFree setup w count (Event.Return i) m) where
  -- a live call's return moves node i on
  returns_by : (p : SlotCall) (o : Outcome) → m.slot.content ≡ Some p → outcome_of p.phase ≡ Some o → (b : Bool) → p.tag.generation == m.generation ≡ b
      → Returns setup w i b o (with_node_state w i (node_state_of (if b then proceeded_state setup i o (with_content None m) else with_content None m))) (if b then answer_of o else Answer.Discarded)
  returns_by p o e done true live =
      let c = pending_of m.generation p in
      let call = call_of_pending setup w i c f.all (pending_there w i m f.here p e) in
      let next = has_point (next_point setup i (vector w i).up (point w i) o) (leads_on setup i (vector w i) (point w i) c o call live done) in
      ((next.0, next.1, ap (with_node_state w i) (returned_is setup i o m (node_state w i) next.0 f.here next.1)), refl)
  returns_by p o e done false live = (slot_emptied w i m f.here, refl)

  return_with : (p : SlotCall) (o : Outcome) → m.slot.content ≡ Some p → outcome_of p.phase ≡ Some o → Step setup w (Event.Return i) (with_node_state w i (node_state_of (node_after_return setup i m m.slot.content))) (return_answer m.generation m.slot.content)
  return_with p o e done =
      let c = pending_of m.generation p in
      let by = returns_by p o e done (p.tag.generation == m.generation) refl in
      let state : node_after_return setup i m m.slot.content ≡ returned_state setup i p o m = ap (node_after_return setup i m) e ∙ ap (λ q. option_map_or (λ o. returned_state setup i p o m) q m) done in
      let answer : return_answer m.generation m.slot.content ≡ (if p.tag.generation == m.generation then answer_of o else Answer.Discarded) =
      ap (return_answer m.generation) e ∙ ap (λ q. if p.tag.generation == m.generation then option_map_or answer_of q Answer.Done else Answer.Discarded) done in (
        c,
        o,
        pending_there w i m f.here p e,
        done,
        subst (λ a. Returns setup w i c.is_live o (with_node_state w i (node_state_of (node_after_return setup i m m.slot.content))) a) (sym answer)
            (subst (λ s. Returns setup w i c.is_live o (with_node_state w i (node_state_of s)) (if p.tag.generation == m.generation then answer_of o else Answer.Discarded)) (sym state) by),
      )

  return_steps : Step setup w (Event.Return i) (with_node_state w i (node_state_of (node_after_return setup i m m.slot.content))) (return_answer m.generation m.slot.content)
  return_steps =
      let there = call_in_slot w i m f.here (λ f. not (is_sent f)) (return_facts setup w count i f.none) in
      let call = call_of_pending setup w i (pending_of m.generation there.0) f.all (pending_there w i m f.here there.0 there.1) in
      let done = outcome_there there.0.call.kind there.0.phase call.phase there.2 in
      return_with there.0 done.0 there.1 done.1

some_outcome : (setup : Setup) (i : ℕ) (v : Vector) (at : Point) (g : ℕ) (q : Option SlotCall) → SuitsPending setup i v at (option_map (pending_of g) q) → in_phase (λ f. not (is_sent f)) (option_map (pending_of g) q) ≡ true
    → IsSome (option_and_then (λ p. outcome_of p.phase) q)
some_outcome setup i v at g None s t = absurd (cc t)
some_outcome setup i v at g (Some p) s t = by_phase p.phase s.phase t
  where
    by_phase : (f : Phase) → SuitsPhase p.call.kind f → not (is_sent f) ≡ true → IsSome (outcome_of f)
    by_phase Phase.Sent s t = absurd (cc t)
    by_phase (Phase.Ran Answer.Yes) s t = refl
    by_phase (Phase.Ran Answer.No) s t = refl
    by_phase (Phase.Ran Answer.Done) s t = elim s [ ]
    by_phase (Phase.Ran Answer.Failed) s t = elim s [ ]
    by_phase (Phase.Ran Answer.Discarded) s t = elim s [ ]
    by_phase Phase.Failed s t = refl

return_may : (setup : Setup) (i : ℕ) (w : World) (count : ℕ) (m : StoredNode) → IsFree setup w count (Event.Return i) m → IsKept setup count i m → MayApply setup (Event.Return i) m
return_may setup i w count m f kept =
    let fits : NodeInvariant setup i (node_state_of m) = subst (NodeInvariant setup i) f.here (f.all.fits i) in
    some_outcome setup i m.vector.vector m.point m.generation m.slot.content fits.by_call (ap (λ (x : NodeState). in_phase (λ f. not (is_sent f)) x.pending) (sym f.here) ∙ return_facts setup w count i f.none)

kept_returned : (setup : Setup) (events i : ℕ) (m : StoredNode) (q : Option SlotCall) → IsKept setup events i m → IsKept setup (events + 1) i (node_after_return setup i m q)
kept_returned setup events i m None k = kept_later setup events i m k
kept_returned setup events i m (Some p) k = by_outcome (outcome_of p.phase)
  where
    by_test : (b : Bool) (o : Outcome) → IsKept setup (events + 1) i (if b then proceeded_state setup i o (with_content None m) else with_content None m)
    by_test true o = kept_proceeded setup events i o (with_content None m) (kept_empty setup events i m k)
    by_test false o = kept_emptied setup events i m k

    by_outcome : (o : Option Outcome) → IsKept setup (events + 1) i (option_map_or (λ o. returned_state setup i p o m) o m)
    by_outcome None = kept_later setup events i m k
    by_outcome (Some o) = by_test (p.tag.generation == m.generation) o

returned_same : (setup : Setup) (i : ℕ) (m : StoredNode) (q : Option SlotCall) → (node_after_return setup i m q).generation ≡ m.generation
returned_same setup i m None = refl
returned_same setup i m (Some p) = by_outcome (outcome_of p.phase)
  where
    by_test : (b : Bool) (o : Outcome) → StoredNode.generation (if b then proceeded_state setup i o (with_content None m) else with_content None m) ≡ m.generation
    by_test true o = refl
    by_test false o = refl

    by_outcome : (o : Option Outcome) → StoredNode.generation (option_map_or (λ o. returned_state setup i p o m) o m) ≡ m.generation
    by_outcome None = refl
    by_outcome (Some o) = by_test (p.tag.generation == m.generation) o

-- a call's outcome is no plan
outcome_unplanned : (f : Phase) (o : Outcome) → outcome_of f ≡ Some o → o ≢ Outcome.Planned
outcome_unplanned f o is e = grind (arith, is, e)

returns_fits : (setup : Setup) (w : World) (i : ℕ) (c : Pending) (o : Outcome) (w' : World) (a : Answer) (live : Bool) → WorldInvariant setup w → pending w i ≡ Some c → outcome_of c.phase ≡ Some o → Returns setup w i live o w' a → WorldInvariant setup w'
returns_fits setup w i c o w' a true all is done r = proceeds_fits setup w i o w' all (node_of_pending setup w i c all is).1 (outcome_unplanned c.phase o done) r.0
returns_fits setup w i c o w' a false all is done r = rw r.0 (emptied_fits setup w i c all is)

returns_computed : (setup : Setup) (w : World) (i : ℕ) (b : Bool) (o : Outcome) (w' : World) (a : Answer) → Returns setup w i b o w' a → outcome_step setup w i b (Some o) ≡ Some (w', a)
returns_computed setup w i true o w' a r = grind (arith, r)
returns_computed setup w i false o w' a r = grind (arith, r)

-- a return writes its own node alone
returns_writes : (setup : Setup) (w : World) (i : ℕ) (is_live : Bool) (o : Outcome) (w' : World) (a : Answer) → Returns setup w i is_live o w' a → (m : NodeState) × (w' ≡ with_node_state w i m)
returns_writes setup w i true o w' a r = (_, r.0.2)
returns_writes setup w i false o w' a r = (_, r.0)

pub return_laws : (setup : Setup) (i : ℕ) → OwnLaws setup (Event.Return i)
return_laws setup i = record {
  computed = λ w w' a. ((λ t. grind (arith, t)), (λ s. grind (arith, s, returns_computed setup w i s.0.is_live s.1 w' a s.4)));
  free = λ w w' count a all room s. grind (arith, s, room, (all.fits i).a_node, (all.fits i).down_free);
  fits = λ w w' a s all. returns_fits setup w i s.0 s.1 w' a s.0.is_live all s.2 s.3 s.4;
  writes = λ w w' a s. returns_writes setup w i s.0.is_live s.1 w' a s.4;
  steps = return_steps setup i;
  may = return_may setup i;
  kept = λ count m. kept_returned setup count i m m.slot.content;
  generation = λ w m. let same = returned_same setup i m m.slot.content in omega (arith, same);
  tag = λ m stays. absurd (grind (arith, nat_tests, stays));
}

-- why one is refused at a node that is up, read off its node state
pub return-cause : (setup : Setup) (w : World) (count i : ℕ) (m : NodeState) → node_state w i ≡ m → first_of (refuses setup w count (Event.Return i)) later_refusals
    ≡ (if not (in_phase (λ f. not (is_sent f)) m.pending) then Some Refused.NoCall else None)
return-cause setup w count i m here = grind (arith, here)
