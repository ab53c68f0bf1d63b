-- The laws of a Start.
use Rattle.std.proofs.Common.{◌≡◌, ℕ, true, List, length, Option, None, Some, arith, refl, sym, ◌∙◌, ap, subst, not, option_map, IsSome, if◌then◌else◌}
use Rattle.std.proofs.lemmas.Bool.Decides.{nat_tests}
use Rattle.bully_base.specs.Setup.{Setup}
use Rattle.bully_calls.specs.declared.call.Call.{Call}
use Rattle.bully_calls.specs.declared.call.CallKind.{CallKind}
use Rattle.bully_calls.specs.declared.call.CallKind.TheVariants.{AreYouUp, AreYouNormal, Halt, NewCoordinator, Ready}
use Rattle.bully_calls.specs.Slot.{SlotCall, pending_of, CarriesFor}
use Rattle.bully_handlers.specs.Vector.{Vector}
use Rattle.bully_steps.specs.declared.point.Point.{Point}
use Rattle.bully_steps.specs.declared.point.Point.TheVariants.{Idle, Asking, Halting, Announcing, Planning, Readying, Checking, Inquiring}
use Rattle.bully_steps.specs.declared.point.Want.{Want}
use Rattle.bully_steps.specs.Point.{offered}
use Rattle.bully_steps.specs.ProcedureState.{IsCall}
use Rattle.bully_calls.specs.declared.event.Event.{Event}
use Rattle.bully_calls.specs.declared.event.Refused.{Refused}
use Rattle.bully_world.specs.Cause.{refuses, first_of, later_refusals, cause, is_call, is_pending}
use Rattle.bully_world.specs.NodeInvariant.{NodeInvariant, SuitsPoint}
use Rattle.bully_world.specs.State.{StoredNode, node_state_of, IsKept}
use Rattle.bully_world.specs.StateAfter.{started_state, opened_state, node_answer, MayApply}
use Rattle.bully_world.specs.Step.{Step, IsUp, offer, sent, carried}
use Rattle.bully_world.specs.World.{World, NodeState, node_state, pending, with_node_state}
use Rattle.bully_world.proofs.CallInvariant.{start_fits}
use Rattle.bully_world.proofs.EventLaws.{OwnLaws, IsFree}
use Rattle.bully_world.proofs.KeptLemmas.{kept_later}
use Rattle.bully_world.proofs.NodeStateLemmas.{written_fits, node_of_up}

start_facts : (setup : Setup) (w : World) (count i : ℕ) → cause setup w count (Event.Start i) ≡ None → IsUp w i × (pending w i ≡ None) × (is_call (offer setup w i) ≡ true)
start_facts setup w count i n = grind (arith, n)

call_there : (q : Want) → is_call q ≡ true → (call : Call) × (q ≡ Want.Start call)
call_there (Want.Start call) t = (call, refl)
call_there Want.Nothing t = absurd (grind arith)
call_there Want.Move t = absurd (grind arith)
call_there Want.Plan t = absurd (grind arith)
call_there Want.Await t = absurd (grind arith)

started_is : (setup : Setup) (i : ℕ) (m : StoredNode) (q : NodeState) (call : Call) → q ≡ node_state_of m → offered setup q.vector.coordinator q.point ≡ Want.Start call → node_state_of (started_state setup i m) ≡ record q { pending = Some (sent call q.vector) }
started_is setup i m q call is e =
    let here : offered setup m.vector.vector.coordinator m.point ≡ Want.Start call = ap (λ (q : NodeState). offered setup q.vector.coordinator q.point) (sym is) ∙ e in
    begun here ∙ ap (λ (q : NodeState). record q { pending = Some (sent call q.vector) }) (sym is)
  where
    begun : offered setup m.vector.vector.coordinator m.point ≡ Want.Start call → node_state_of (started_state setup i m) ≡ record (node_state_of m) { pending = Some (sent call m.vector.vector) }
    begun e = grind (arith, nat_tests, e)

start_steps : (setup : Setup) (i : ℕ) (w : World) (count : ℕ) (m : StoredNode) → IsFree setup w count (Event.Start i) m → Step setup w (Event.Start i) (with_node_state w i (node_state_of (started_state setup i m))) (node_answer (Event.Start i) m)
start_steps setup i w count m f =
    let facts = start_facts setup w count i f.none in
    let there = call_there (offer setup w i) facts.2 in
    (facts.0, facts.1, there.0, there.1, ap (with_node_state w i) (started_is setup i m (node_state w i) there.0 f.here there.1), refl)

-- a node whose point offers a Ready has a task
has_task : (setup : Setup) (i : ℕ) (v : Vector) (p : Point) (call : Call) → offered setup v.coordinator p ≡ Want.Start call → call.kind ≡ Ready → SuitsPoint i v p → IsSome v.task
has_task setup i v Idle call e k s = grind (arith, e, k)
has_task setup i v (Asking j) call e k s = grind (arith, e, k)
has_task setup i v (Halting j) call e k s = grind (arith, e, k)
has_task setup i v (Announcing rest) call e k s = grind (arith, e, k)
has_task setup i v Planning call e k s = grind (arith, e, k)
has_task setup i v (Readying rest) call e k s = s.2
has_task setup i v (Checking j) call e k s = grind (arith, e, k)
has_task setup i v Inquiring call e k s = grind (arith, e, k)

carries_task : (call : Call) (q : Option (List ℕ)) (room : ℕ) → call.kind ≡ Ready → IsSome q → ((table : List ℕ) → q ≡ Some table → length table ≡ room) → CarriesFor call q room
carries_task call None room k s l = absurd (cc s)
carries_task call (Some table) room k s l = (k, l table refl)

-- exactly a Ready carries a table, which fits in the slot
carries : (setup : Setup) (i : ℕ) (m : StoredNode) (call : Call) → NodeInvariant setup i (node_state_of m) → m.slot.room ≡ setup.partitions
    → offered setup m.vector.vector.coordinator m.point ≡ Want.Start call → CarriesFor call (carried call.kind m.vector.vector) m.slot.room
carries setup i m call fits room offers = by_kind call.kind refl
  where
    by_kind : (k : CallKind) → call.kind ≡ k → CarriesFor call (carried k m.vector.vector) m.slot.room
    by_kind AreYouUp e = λ r. cc (e, r)
    by_kind AreYouNormal e = λ r. cc (e, r)
    by_kind Halt e = λ r. cc (e, r)
    by_kind NewCoordinator e = λ r. cc (e, r)
    by_kind Ready e = carries_task call m.vector.vector.task m.slot.room e (has_task setup i m.vector.vector m.point call offers e fits.by_point) (λ table is. fits.by_setup.task table is ∙ sym room)

none_content : (g : ℕ) (q : Option SlotCall) → option_map (pending_of g) q ≡ None → q ≡ None
none_content g None e = refl
none_content g (Some p) e = absurd (cc e)

is_call_there : (q : Want) → is_call q ≡ true → IsCall q
is_call_there (Want.Start call) t = tt
is_call_there Want.Nothing t = absurd (cc t)
is_call_there Want.Move t = absurd (cc t)
is_call_there Want.Plan t = absurd (cc t)
is_call_there Want.Await t = absurd (cc t)

start_may : (setup : Setup) (i : ℕ) (w : World) (count : ℕ) (m : StoredNode) → IsFree setup w count (Event.Start i) m → IsKept setup count i m → MayApply setup (Event.Start i) m
start_may setup i w count m f kept =
    let facts = start_facts setup w count i f.none in
    let free = ap (λ (x : NodeState). x.pending) (sym f.here) ∙ facts.1 in
    let offers = ap (λ (x : NodeState). is_call (offered setup x.vector.coordinator x.point)) (sym f.here) ∙ facts.2 in
    let fits : NodeInvariant setup i (node_state_of m) = subst (NodeInvariant setup i) f.here (f.all.fits i) in
    (is_call_there (offered setup m.vector.vector.coordinator m.point) offers, none_content m.generation m.slot.content free, λ call offers. carries setup i m call fits kept.slot_room offers)

kept_started : (setup : Setup) (events i : ℕ) (m : StoredNode) → IsKept setup events i m → IsKept setup events i (started_state setup i m)
kept_started setup events i m k = by_want (offered setup m.vector.vector.coordinator m.point)
  where
    by_want : (q : Want) → IsKept setup events i (elim q [ Want.Start call ↦ opened_state i call m | _ ↦ m ])
    by_want (Want.Start call) = record { vector_room = k.vector_room; slot_room = k.slot_room; caller = refl; tag = omega arith; generation = k.generation }
    by_want Want.Nothing = k
    by_want Want.Move = k
    by_want Want.Plan = k
    by_want Want.Await = k

started_same : (setup : Setup) (i : ℕ) (m : StoredNode) → (started_state setup i m).generation ≡ m.generation
started_same setup i m = by_want (offered setup m.vector.vector.coordinator m.point)
  where
    by_want : (q : Want) → StoredNode.generation (elim q [ Want.Start call ↦ opened_state i call m | _ ↦ m ]) ≡ m.generation
    by_want (Want.Start call) = refl
    by_want Want.Nothing = refl
    by_want Want.Move = refl
    by_want Want.Plan = refl
    by_want Want.Await = refl

pub start_laws : (setup : Setup) (i : ℕ) → OwnLaws setup (Event.Start i)
start_laws setup i = record {
  computed = λ w w' a. ((λ t. grind (arith, t)), (λ s. grind (arith, s)));
  free = λ w w' count a all room s. grind (arith, s, room, (all.fits i).a_node);
  fits = λ w w' a s all. rw s.4 (written_fits setup w i _ all (node_of_up setup w i all s.0) (start_fits setup i (node_state w i) s.2 (all.fits i) s.0 s.3));
  writes = λ w w' a s. (_, s.4);
  steps = start_steps setup i;
  may = start_may setup i;
  kept = λ count m k. kept_later setup count i (started_state setup i m) (kept_started setup count i m k);
  generation = λ w m. let same = started_same setup i m in omega (arith, same);
  tag = λ m stays. absurd (grind (arith, nat_tests, stays));
}

-- why one is refused at a node that is up, read off its node state
pub start-cause : (setup : Setup) (w : World) (count i : ℕ) (m : NodeState) → node_state w i ≡ m → first_of (refuses setup w count (Event.Start i)) later_refusals
    ≡ (if not (is_call (offered setup m.vector.coordinator m.point)) then Some Refused.NoStep else if is_pending m.pending then Some Refused.SlotBusy else None)
start-cause setup w count i m here = grind (arith, here)
