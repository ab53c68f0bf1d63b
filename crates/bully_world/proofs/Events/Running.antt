-- The laws of a Run, which writes two places: the caller's, which keeps the answer, and then the callee's.
use Rattle.std.proofs.Common.{◌≡◌, ◌≢◌, ◌+◌, ◌<◌, ◌≤◌, ◌^◌, ◌⊎◌, inl, inr, ℕ, true, false, List, length, Option, None, Some, arith, refl, sym, ◌∙◌, ap, subst, not, ◌==◌, ◌&&◌, option_map, option_and_then, IfSome, IsTrue, if◌then◌else◌}
use Rattle.std.proofs.lemmas.Bool.Decides.{nat_tests}
use Rattle.bully_base.proofs.PlaceLemmas.{at_node_other, length-put_node}
use Rattle.bully_base.specs.declared.node.Status.TheVariants.{Down}
use Rattle.bully_base.specs.Places.{put_node}
use Rattle.bully_base.specs.Setup.{Setup, IsNode}
use Rattle.bully_calls.specs.declared.call.Answer.{Answer}
use Rattle.bully_calls.specs.declared.call.Call.{Call}
use Rattle.bully_calls.specs.declared.call.CallKind.{CallKind}
use Rattle.bully_calls.specs.declared.call.CallKind.TheVariants.{AreYouUp, AreYouNormal, Halt, NewCoordinator, Ready}
use Rattle.bully_calls.specs.declared.call.Phase.{Phase}
use Rattle.bully_calls.specs.Pending.{Pending, orphan_of, is_sent}
use Rattle.bully_calls.specs.Slot.{Slot, SlotCall, pending_of, phased, CarriesFor}
use Rattle.bully_handlers.specs.Handler.{callee_after, reply}
use Rattle.bully_handlers.specs.Vector.{Vector}
use Rattle.bully_steps.specs.declared.point.Point.TheVariants.{Idle}
use Rattle.bully_calls.specs.declared.event.Event.{Event}
use Rattle.bully_calls.specs.declared.event.Refused.{Refused}
use Rattle.bully_world.specs.Cause.{refuses, first_of, later_refusals, cause, in_phase, callee_is_down}
use Rattle.bully_world.specs.NodeInvariant.{WorldInvariant, SuitsCall, SuitsCallee, SuitsTable}
use Rattle.bully_world.specs.State.{StoredNode, empty_state, kept_of, node_state_of, world_in, IsKept, AllKept, is_halt, halts, tag_in, tag_of_call}
use Rattle.bully_world.specs.StateAfter.{state_after, state_after_run, answer_after, run_answer, replied, phased_state, callee_state_after, stopped_state_by, with_vector, CanRun}
use Rattle.bully_world.specs.Step.{Step, IsUp, stopped_by, called, ran, with_phase}
use Rattle.bully_world.specs.Waiting.{sent_in, sent_callee}
use Rattle.bully_world.specs.World.{World, NodeState, node_state, vector, point, pending, with_node_state}
use Rattle.bully_world.proofs.ApplyLemmas.{node_in_setup}
use Rattle.bully_world.proofs.EventLaws.{EventLaws, IsKeptWorld}
use Rattle.bully_world.proofs.KeptLemmas.{kept_with, kept_phased, all_later, put_kept}
use Rattle.bully_world.proofs.NodeStateLemmas.{call_of_pending}
use Rattle.bully_world.proofs.WorldIn.{at_node-put_cases, node_state-world_in, world_in-put_node, world_in-length}
use Rattle.bully_world.proofs.RunInvariant.{run_fits}
use Rattle.bully_world.proofs.SlotLemmas.{content_test, pending_there, call_in_slot, phase_written, phased_tag}
use Rattle.bully_world.proofs.WriteLemmas.{raised, put_keeps, put_raised}

run_facts : (setup : Setup) (w : World) (count i : ℕ) → cause setup w count (Event.Run i) ≡ None → (in_phase is_sent (pending w i) ≡ true) × (callee_is_down w (pending w i) ≡ false)
run_facts setup w count i n = (grind (arith, n), grind (arith, n))

pub sent_is : (f : Phase) → is_sent f ≡ true → f ≡ Phase.Sent
sent_is f t = grind arith

callee_is_up : (w : World) (q : Option Pending) (c : Pending) → q ≡ Some c → callee_is_down w q ≡ false → IsUp w c.call.callee
callee_is_up w q c e t = grind arith

-- a Run that nothing refuses is a step of the definitions
run_possible : (setup : Setup) (i : ℕ) (w : World) (count : ℕ) → WorldInvariant setup w → cause setup w count (Event.Run i) ≡ None → (w' : World) × (a : Answer) × Step setup w (Event.Run i) w' a
run_possible setup i w count all n =
    let facts = run_facts setup w count i n in
    let there = call_there (pending w i) facts.0 in
    (_, _, (there.0, there.1, sent_is there.0.phase there.2, callee_is_up w (pending w i) there.0 there.1 facts.1, refl, refl))
  where
    call_there : (q : Option Pending) → in_phase is_sent q ≡ true → (c : Pending) × (q ≡ Some c) × (is_sent c.phase ≡ true)
    call_there None t = absurd (grind arith)
    call_there (Some c) t = (c, refl, t)

-- What it makes of the callee's node state.

-- the tag in a node's slot is of a generation that the node has had
abbrev pub IsTagged : StoredNode → Type 0
IsTagged m = IfSome m.slot.content (λ p. p.tag.generation ≤ m.generation)

pub phased_tagged : (m : StoredNode) (f : Phase) → IsTagged m → IsTagged (phased_state f m)
phased_tagged m f h = by_content m.slot.content h
  where
    by_content : (q : Option SlotCall) → IfSome q (λ p. p.tag.generation ≤ m.generation) → IfSome (option_map (phased f) q) (λ p. p.tag.generation ≤ m.generation)
    by_content None h = tt
    by_content (Some p) h = h

-- a tag that is kept where its place is written anew
put_tagged : (ms : List StoredNode) (i j : ℕ) (s : StoredNode) → IsTagged s → IsTagged (kept_of ms j) → IsTagged (kept_of (put_node ms i s) j)
put_tagged ms i j s ts tj = by_case (at_node-put_cases (empty_state 0) ms i j s)
  where
    by_case : ((j ≡ i) × (kept_of (put_node ms i s) j ≡ s)) ⊎ (kept_of (put_node ms i s) j ≡ kept_of ms j) → IsTagged (kept_of (put_node ms i s) j)
    by_case (inl h) = subst IsTagged (sym h.1) ts
    by_case (inr h) = subst IsTagged (sym h) tj

-- a raised generation makes the call in the slot an orphan
orphans : (q : Option SlotCall) (g : ℕ) → IfSome q (λ p. p.tag.generation ≤ g) → option_map (pending_of (g + 1)) q ≡ option_map orphan_of (option_map (pending_of g) q)
orphans None g h = refl
orphans (Some p) g h = grind (arith, nat_tests, h)

pub callee_after_is : (i : ℕ) (p : SlotCall) (g : ℕ) (m : StoredNode) → IsTagged m → node_state_of (callee_state_after i p m) ≡ called i (pending_of g p) (node_state_of m)
callee_after_is i p g m h = by_kind p.call.kind
  where
    by_kind : (kind : CallKind) → node_state_of (stopped_state_by kind (with_vector (callee_after i kind p.table m.vector.vector) m)) ≡ stopped_by kind (record (node_state_of m) { vector = callee_after i kind p.table m.vector.vector })
    by_kind AreYouUp = refl
    by_kind AreYouNormal = refl
    by_kind Halt = ap (λ q. record { vector = callee_after i Halt p.table m.vector.vector; point = Idle; pending = q }) (orphans m.slot.content m.generation h)
    by_kind NewCoordinator = refl
    by_kind Ready = refl

pub kept_callee : (setup : Setup) (events i j : ℕ) (p : SlotCall) (m : StoredNode) → IsKept setup events j m → IsKept setup (events + 1) j (callee_state_after i p m)
kept_callee setup events i j p m k = by_kind p.call.kind (callee_after i p.call.kind p.table m.vector.vector)
  where
    by_kind : (kind : CallKind) (v : Vector) → IsKept setup (events + 1) j (stopped_state_by kind (with_vector v m))
    by_kind AreYouUp v = kept_with setup events j m v m.point m.generation (omega arith) (omega arith) k
    by_kind AreYouNormal v = kept_with setup events j m v m.point m.generation (omega arith) (omega arith) k
    by_kind Halt v = kept_with setup events j m v Idle (m.generation + 1) (omega arith) (omega arith) k
    by_kind NewCoordinator v = kept_with setup events j m v m.point m.generation (omega arith) (omega arith) k
    by_kind Ready v = kept_with setup events j m v m.point m.generation (omega arith) (omega arith) k

callee_raised : (i : ℕ) (p : SlotCall) (m : StoredNode) → (callee_state_after i p m).generation ≡ m.generation + raised (is_halt p.call.kind)
callee_raised i p m = by_kind p.call.kind (callee_after i p.call.kind p.table m.vector.vector)
  where
    by_kind : (kind : CallKind) (v : Vector) → (stopped_state_by kind (with_vector v m)).generation ≡ m.generation + raised (is_halt kind)
    by_kind AreYouUp v = omega arith
    by_kind AreYouNormal v = omega arith
    by_kind Halt v = refl
    by_kind NewCoordinator v = omega arith
    by_kind Ready v = omega arith

pub callee_slot : (i : ℕ) (p : SlotCall) (m : StoredNode) → (callee_state_after i p m).slot ≡ m.slot
callee_slot i p m = by_kind p.call.kind (callee_after i p.call.kind p.table m.vector.vector)
  where
    by_kind : (kind : CallKind) (v : Vector) → (stopped_state_by kind (with_vector v m)).slot ≡ m.slot
    by_kind AreYouUp v = refl
    by_kind AreYouNormal v = refl
    by_kind Halt v = refl
    by_kind NewCoordinator v = refl
    by_kind Ready v = refl

-- What it makes of the two places.

abbrev answered : List StoredNode → ℕ → SlotCall → List StoredNode
answered ms i p = put_node ms i (phased_state (Phase.Ran (replied ms p)) (kept_of ms i))

run_length : (ms : List StoredNode) (i : ℕ) (q : Option SlotCall) → length (state_after_run ms i q) ≡ length ms
run_length ms i None = refl
run_length ms i (Some p) =
    length-put_node (answered ms i p) p.call.callee (callee_state_after i p (kept_of (answered ms i p) p.call.callee))
    ∙ length-put_node ms i (phased_state (Phase.Ran (replied ms p)) (kept_of ms i))

run_kept : (setup : Setup) (count : ℕ) (ms : List StoredNode) (i : ℕ) (q : Option SlotCall) → AllKept setup count ms → AllKept setup (count + 1) (state_after_run ms i q)
run_kept setup count ms i None kept = all_later setup count ms kept
run_kept setup count ms i (Some p) kept =
    let f = Phase.Ran (replied ms p) in
    let first : AllKept setup count (answered ms i p) = put_kept setup count ms i (phased_state f (kept_of ms i)) kept (λ node. kept_phased setup count i (kept_of ms i) f (kept i node)) in
    let j = p.call.callee in
    put_kept setup (count + 1) (answered ms i p) j (callee_state_after i p (kept_of (answered ms i p) j)) (all_later setup count (answered ms i p) first) (λ node. kept_callee setup count i j p (kept_of (answered ms i p) j) (first j node))

run_tags : (ms : List StoredNode) (i j : ℕ) (q : Option SlotCall) → tag_in (kept_of (state_after_run ms i q) j) ≡ tag_in (kept_of ms j)
run_tags ms i j None = refl
run_tags ms i j (Some p) =
    let called_there = kept_of (answered ms i p) p.call.callee in
    put_keeps tag_in (answered ms i p) p.call.callee j (callee_state_after i p called_there) (ap (λ (s : Slot). option_map tag_of_call s.content) (callee_slot i p called_there))
    ∙ put_keeps tag_in ms i j (phased_state (Phase.Ran (replied ms p)) (kept_of ms i)) (phased_tag (Phase.Ran (replied ms p)) (kept_of ms i))

run_sent : (ms : List StoredNode) (i j : ℕ) (q : Option SlotCall) → j ≢ i → sent_in (kept_of (state_after_run ms i q) j) ≡ sent_in (kept_of ms j)
run_sent ms i j None d = refl
run_sent ms i j (Some p) d =
    let called_there = kept_of (answered ms i p) p.call.callee in
    put_keeps sent_in (answered ms i p) p.call.callee j (callee_state_after i p called_there) (ap (λ (s : Slot). option_and_then sent_callee s.content) (callee_slot i p called_there))
    ∙ ap sent_in (at_node_other (empty_state 0) ms i j (phased_state (Phase.Ran (replied ms p)) (kept_of ms i)) d)

suits_table : (setup : Setup) (call : Call) (q : Option (List ℕ)) (room : ℕ) → SuitsTable setup call.kind q → room ≡ setup.partitions → CarriesFor call q room
suits_table setup call None room s e = s
suits_table setup call (Some table) room s e = (s.0, s.1 ∙ sym e)

other_node : (i : ℕ) (kind : CallKind) (k : ℕ) → SuitsCallee i kind k → k ≢ i
other_node i AreYouUp k s = s
other_node i AreYouNormal k s = s
other_node i Halt k s = omega arith
other_node i NewCoordinator k s = omega arith
other_node i Ready k s = omega arith

module _ (setup : Setup) (i count : ℕ) (ms : List StoredNode) (is : IsKeptWorld setup count ms) (none : cause setup (world_in ms) count (Event.Run i) ≡ None) where
  abbrev w : World
  w = world_in ms

  here : (j : ℕ) → node_state w j ≡ node_state_of (kept_of ms j)
  here j = node_state-world_in ms j

  facts : (in_phase is_sent (pending w i) ≡ true) × (callee_is_down w (pending w i) ≡ false)
  facts = run_facts setup w count i none

  in_slot : (p : SlotCall) × ((kept_of ms i).slot.content ≡ Some p) × (is_sent p.phase ≡ true)
  in_slot = call_in_slot w i (kept_of ms i) (here i) is_sent facts.0

  abbrev p : SlotCall
  p = in_slot.0

  abbrev c : Pending
  c = pending_of (kept_of ms i).generation p

  abbrev j : ℕ
  j = p.call.callee

  content : (kept_of ms i).slot.content ≡ Some p
  content = in_slot.1

  pending_is : pending w i ≡ Some c
  pending_is = pending_there w i (kept_of ms i) (here i) p content

  suits : SuitsCall setup i (vector w i) (point w i) c
  suits = call_of_pending setup w i c is.all pending_is

  node : IsNode setup i
  node = node_in_setup setup w count (Event.Run i) none

  callee_within : j ≤ length ms
  callee_within = omega (arith, world_in-length ms, is.all.count, suits.to_node.1)

  up : IsUp w j
  up = callee_is_up w (pending w i) c pending_is facts.1

  put_is : (xs : List StoredNode) (k : ℕ) (s : StoredNode) (x : NodeState) → node_state_of s ≡ x → world_in (put_node xs k s) ≡ with_node_state (world_in xs) k x
  put_is xs k s x e = world_in-put_node xs k s ∙ ap (λ q. with_node_state (world_in xs) k q) e

  run_by : world_in (state_after_run ms i (Some p)) ≡ ran w i c
  run_by =
      let f = Phase.Ran (replied ms p) in
      let said : replied ms p ≡ reply p.call.kind (vector w j) = ap (λ (q : NodeState). reply p.call.kind q.vector) (sym (here j)) in
      let first : world_in (answered ms i p) ≡ with_phase w i c (Phase.Ran (reply c.call.kind (vector w j))) =
      world_in-put_node ms i (phased_state f (kept_of ms i)) ∙ phase_written w i (kept_of ms i) (here i) p f content ∙ ap (λ a. with_phase w i c (Phase.Ran a)) said in
      let there : node_state (world_in (answered ms i p)) j ≡ node_state_of (kept_of (answered ms i p) j) = node_state-world_in (answered ms i p) j in
      let tagged = put_tagged ms i j (phased_state f (kept_of ms i)) (phased_tagged (kept_of ms i) f (is.kept i node).tag) (is.kept j suits.to_node).tag in
      let second = callee_after_is i p (kept_of ms i).generation (kept_of (answered ms i p) j) tagged in
      put_is (answered ms i p) j (callee_state_after i p (kept_of (answered ms i p) j)) (called i c (node_state (world_in (answered ms i p)) j)) (second ∙ ap (called i c) (sym there))
      ∙ ap (λ q. with_node_state q j (called i c (node_state q j))) first

  run_steps : Step setup w (Event.Run i) (world_in (state_after setup ms (Event.Run i))) (answer_after ms (Event.Run i))
  run_steps =
      let world = ap (λ q. world_in (state_after_run ms i q)) content ∙ run_by in
      let answer = ap (run_answer ms) content ∙ ap (λ (q : NodeState). reply p.call.kind q.vector) (sym (here j)) in
      (c, pending_is, sent_is p.phase in_slot.2, up, world, answer)

  callee_up : (kept_of ms j).vector.vector.status ≢ Down
  callee_up = subst (λ (m : NodeState). m.vector.status ≢ Down) (here j) up

  sent_there : IsTrue (in_phase is_sent (option_map (pending_of (kept_of ms i).generation) (kept_of ms i).slot.content))
  sent_there = ap (λ (q : NodeState). in_phase is_sent q.pending) (sym (here i)) ∙ facts.0

  run_can : count + 1 < 2 ^ 32 → CanRun ms i
  run_can room = record {
    call = p;
    content = content;
    caller = omega (arith, world_in-length ms, is.all.count, node.1);
    callee = (suits.to_node.0, callee_within);
    other = other_node i p.call.kind j suits.callee;
    can = record {
      sent = content_test is_sent (kept_of ms i).generation (kept_of ms i).slot.content sent_there;
      up = callee_up;
      room = omega (arith, (is.kept j suits.to_node).generation, room);
      carries = subst (λ q. IfSome q (λ p'. CarriesFor p'.call p'.table (kept_of ms j).vector.room)) (sym content)
          (suits_table setup p.call p.table (kept_of ms j).vector.room suits.table (is.kept j suits.to_node).vector_room);
    };
  }

  run_raised : (k : ℕ) → (kept_of (state_after_run ms i (kept_of ms i).slot.content) k).generation ≡ (kept_of ms k).generation + raised (halts k (pending w i))
  run_raised k =
      let f = Phase.Ran (replied ms p) in
      let within : j ≤ length (answered ms i p) = omega (arith, callee_within, length-put_node ms i (phased_state f (kept_of ms i))) in
      ap (λ q. (kept_of (state_after_run ms i q) k).generation) content
      ∙ put_raised (answered ms i p) j k (callee_state_after i p (kept_of (answered ms i p) j)) (is_halt p.call.kind) suits.to_node.0 within (callee_raised i p (kept_of (answered ms i p) j))
      ∙ ap (λ g. g + raised (is_halt p.call.kind && (j == k))) (put_keeps (λ (m : StoredNode). m.generation) ms i k (phased_state f (kept_of ms i)) refl)
      ∙ ap (λ q. (kept_of ms k).generation + raised (halts k q)) (sym pending_is)

pub run_laws : (setup : Setup) (i : ℕ) → EventLaws setup (Event.Run i)
run_laws setup i = record {
  computed = λ w w' a. ((λ t. grind (arith, t)), (λ s. grind (arith, s)));
  free = λ w w' count a all room s. grind (arith, s, room, (all.fits i).a_node, (all.fits i).down_free);
  possible = run_possible setup i;
  fits = λ w w' a s all. rw s.4 (run_fits setup w i s.0 all s.1 s.3);
  steps = run_steps setup i;
  can = λ count ms is room none. run_can setup i count ms is none room;
  many = λ ms. run_length ms i (kept_of ms i).slot.content;
  kept = λ count ms kept. run_kept setup count ms i (kept_of ms i).slot.content kept;
  generations = λ count ms is none. run_raised setup i count ms is none;
  tags = λ ms j stays. run_tags ms i j (kept_of ms i).slot.content;
  sent = λ ms j other. run_sent ms i j (kept_of ms i).slot.content other;
}

-- why one is refused at a node that is up, read off its node state
pub run-cause : (setup : Setup) (w : World) (count i : ℕ) (m : NodeState) → node_state w i ≡ m → first_of (refuses setup w count (Event.Run i)) later_refusals
    ≡ (if not (in_phase is_sent m.pending) then Some Refused.NoCall else if callee_is_down w m.pending then Some Refused.CalleeDown else None)
run-cause setup w count i m here = grind (arith, here)
