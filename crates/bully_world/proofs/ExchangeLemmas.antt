-- A call that runs, by the places of its caller's and its callee's states.
use Rattle.std.proofs.Common.{◌≡◌, ◌≢◌, ℕ, ◌+◌, ◌<◌, List, length, Option, Some, None, sym, ◌∙◌, ap, subst, arith, option_map, IfSome, slice_index_or, slice_set}
use Rattle.bully_base.specs.Places.{at_node, put_node}
use Rattle.bully_base.proofs.PlaceLemmas.{at_node-place, put_node-place, at_node_other}
use Rattle.bully_calls.specs.declared.call.Answer.{Answer}
use Rattle.bully_calls.specs.declared.call.Call.{Call}
use Rattle.bully_calls.specs.declared.call.Phase.{Phase}
use Rattle.bully_calls.specs.Slot.{SlotCall}
use Rattle.bully_handlers.specs.Handler.{reply}
use Rattle.bully_world.specs.State.{kept_of, StoredNode, empty_state}
use Rattle.bully_world.specs.StateAfter.{state_after_run, replied, callee_state_after, phased_state, CanExchange, CanRun}

-- what a run makes of the list, as two writes to it
pub state_after_run-writes : (ms : List StoredNode) (i : ℕ) (p : SlotCall) (here there : ℕ) → here + 1 ≡ i → there + 1 ≡ p.call.callee → p.call.callee ≢ i
    → state_after_run ms i (Some p) ≡ slice_set (slice_set ms here (phased_state (Phase.Ran (replied ms p)) (kept_of ms i))) there (callee_state_after i p (kept_of ms p.call.callee))
state_after_run-writes ms i p here there h t other =
    put_node-place (put_node ms i (phased_state (Phase.Ran (replied ms p)) (kept_of ms i))) there p.call.callee (callee_state_after i p (at_node (empty_state 0) (put_node ms i (phased_state (Phase.Ran (replied ms p)) (kept_of ms i))) p.call.callee)) t
    ∙ ap (λ xs. slice_set xs there (callee_state_after i p (at_node (empty_state 0) (put_node ms i (phased_state (Phase.Ran (replied ms p)) (kept_of ms i))) p.call.callee))) (put_node-place ms here i (phased_state (Phase.Ran (replied ms p)) (kept_of ms i)) h)
    ∙ ap (λ m. slice_set (slice_set ms here (phased_state (Phase.Ran (replied ms p)) (kept_of ms i))) there (callee_state_after i p m)) (at_node_other (empty_state 0) ms i p.call.callee (phased_state (Phase.Ran (replied ms p)) (kept_of ms i)) other)

-- a fact of what it holds
pub if_content : (q : Option SlotCall) (p : SlotCall) (P : SlotCall → Type 0) → q ≡ Some p → IfSome q P → P p
if_content None p P e h = absurd (cc e)
if_content (Some x) p P e h = subst P (cc e) h

abbrev place_at : List StoredNode → ℕ → StoredNode
place_at ms k = slice_index_or ms k (empty_state 0)

-- a run by the places of its two states: node i's, at `here`, and its callee's, at `there`
pub record RunsBetween (ms : List StoredNode) (i here there : ℕ) : Type 0 where
  pub p : SlotCall
  pub content : (kept_of ms i).slot.content ≡ Some p
  pub is_here : place_at ms here ≡ kept_of ms i
  pub is_there : place_at ms there ≡ kept_of ms p.call.callee
  pub from_here : here + 1 ≡ i
  pub to_there : there + 1 ≡ p.call.callee
  pub within : there < length ms
  pub other : p.call.callee ≢ i
  pub can : CanExchange (place_at ms here) (place_at ms there)

pub runs_between : (ms : List StoredNode) (i here there : ℕ) → CanRun ms i → (m : StoredNode) (call : Call) → here + 1 ≡ i → there + 1 ≡ call.callee → m ≡ slice_index_or ms here m → option_map (λ (p : SlotCall). p.call) m.slot.content ≡ Some call → RunsBetween ms i here there
runs_between ms i here there r m call h t is calls =
    let within_here : here < length ms = omega (arith, r.caller, h) in
    let here_is : kept_of ms i ≡ m = at_node-place (empty_state 0) m ms here i h within_here ∙ sym is in
    let same : r.call.call ≡ call = same_call (kept_of ms i).slot.content r.call call r.content (ap (λ (x : StoredNode). option_map (λ (p : SlotCall). p.call) x.slot.content) here_is ∙ calls) in
    let to_there : there + 1 ≡ r.call.call.callee = t ∙ ap (λ (x : Call). x.callee) (sym same) in
    let within_there : there < length ms = omega (arith, r.callee.1, to_there) in
    let at_here = sym (at_node-place (empty_state 0) (empty_state 0) ms here i h within_here) in
    let at_there = sym (at_node-place (empty_state 0) (empty_state 0) ms there r.call.call.callee to_there within_there) in
    record {
      p = r.call;
      content = r.content;
      is_here = at_here;
      is_there = at_there;
      from_here = h;
      to_there = to_there;
      within = within_there;
      other = r.other;
      can = subst (λ (x : StoredNode). CanExchange x (place_at ms there)) (sym at_here) (subst (λ (x : StoredNode). CanExchange (kept_of ms i) x) (sym at_there) r.can);
    }
  where
    same_call : (q : Option SlotCall) (p : SlotCall) (call : Call) → q ≡ Some p → option_map (λ (x : SlotCall). x.call) q ≡ Some call → p.call ≡ call
    same_call None p call e f = absurd (cc e)
    same_call (Some x) p call e f = grind (arith, e, f)

-- what the two states make of it is what the run makes, with its answer
pub run-answer : (ms : List StoredNode) (i here there : ℕ) (result : Answer) (r : RunsBetween ms i here there)
    → IfSome (place_at ms here).slot.content (λ p. result ≡ reply p.call.kind (place_at ms there).vector.vector) → result ≡ replied ms r.p
run-answer ms i here there result r h =
    if_content (place_at ms here).slot.content r.p (λ p. result ≡ reply p.call.kind (place_at ms there).vector.vector) (ap (λ (x : StoredNode). x.slot.content) r.is_here ∙ r.content) h
    ∙ ap (λ (x : StoredNode). reply r.p.call.kind x.vector.vector) r.is_there

pub run-after : (ms new : List StoredNode) (i here there : ℕ) (result : Answer) (r : RunsBetween ms i here there) → result ≡ replied ms r.p
    → IfSome (place_at ms here).slot.content (λ p. new ≡ slice_set (slice_set ms here (phased_state (Phase.Ran result) (place_at ms here))) there (callee_state_after i p (place_at ms there)))
    → new ≡ state_after_run ms i (Some r.p)
run-after ms new i here there result r answer h =
    if_content (place_at ms here).slot.content r.p (λ p. new ≡ slice_set (slice_set ms here (phased_state (Phase.Ran result) (place_at ms here))) there (callee_state_after i p (place_at ms there))) (ap (λ (x : StoredNode). x.slot.content) r.is_here ∙ r.content) h
    ∙ ap (λ (x : StoredNode). slice_set (slice_set ms here (phased_state (Phase.Ran result) x)) there (callee_state_after i r.p (place_at ms there))) r.is_here
    ∙ ap (λ (a : Answer). slice_set (slice_set ms here (phased_state (Phase.Ran a) (kept_of ms i))) there (callee_state_after i r.p (place_at ms there))) answer
    ∙ ap (λ (x : StoredNode). slice_set (slice_set ms here (phased_state (Phase.Ran (replied ms r.p)) (kept_of ms i))) there (callee_state_after i r.p x)) r.is_there
    ∙ sym (state_after_run-writes ms i r.p here there r.from_here r.to_there r.other)
