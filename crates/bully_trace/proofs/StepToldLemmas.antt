-- What a row says beside an event of a call is so exactly where the step of that event has it.
use Rattle.std.proofs.Common.{◌≡◌, ◌↔◌, ◌∙◌, ℕ, ◌&&◌, Bool, true, false, Option, Some, None, if◌then◌else◌, refl, sym, ap}
use Rattle.std.specs.Prelude.{⊤, option_map, option_and_then}
use Rattle.std.proofs.lemmas.Bool.{and_from, and_parts}
use Rattle.std.proofs.lemmas.Option.{same_Some}
use Rattle.bully_base.specs.Setup.{Setup, is_node}
use Rattle.bully_calls.specs.declared.call.Answer.{Answer}
use Rattle.bully_calls.specs.declared.call.Answer.TheVariants.{Discarded}
use Rattle.bully_calls.specs.declared.call.Call.{Call}
use Rattle.bully_calls.specs.declared.call.Outcome.{Outcome}
use Rattle.bully_calls.specs.declared.kind.NodeEventKind.{NodeEventKind}
use Rattle.bully_calls.specs.declared.kind.Saying.{Saying}
use Rattle.bully_calls.specs.Events.{event_at, node_saying}
use Rattle.bully_calls.specs.Pending.{Pending, answer_of, outcome_of}
use Rattle.bully_handlers.specs.Handler.{reply}
use Rattle.bully_world.specs.Step.{Returns, Step, offer}
use Rattle.bully_world.specs.World.{World, pending, vector}
use Rattle.bully_rows.specs.declared.detail.Detail.{Detail}
use Rattle.bully_rows.specs.EventsTold.{answered}
use Rattle.bully_trace.specs.Details.{brought, call_at, is_said, offered_call, said_by, same_answers, same_call, says}
use Rattle.bully_trace.specs.StepTold.{HasStep, IsOfStep, TellsTheStep}
use Rattle.bully_trace.proofs.SameLemmas.{answers-is, answers-itself, call-is, call-itself, is-node, node-within}

-- ---- what is there

-- a call that is there, and what is said of it
abbrev detail_of : NodeEventKind → Call → Option Answer → Detail
detail_of k c a = record { kind = k; call = c; answer = a }

call-told : (kind : NodeEventKind) (answer_to : Call → Option Answer) (there : Option Call) (call : Call) (told : Option Answer)
    → (is_said (option_map (λ c. detail_of kind c (answer_to c)) there) (detail_of kind call told) ≡ true) ↔ ((told ≡ answer_to call) × (there ≡ Some call))
call-told kind answer_to None call told = (λ e. absurd (cc e), λ is. absurd (cc is.1))
call-told kind answer_to (Some c) call told = (
  λ e.
      let parts = and_parts (same_call c call) (same_answers (answer_to c) told) e in
      let same = call-is c call parts.0 in
      (sym (answers-is (answer_to c) told parts.1) ∙ ap answer_to same, ap Some same),
  λ is.
      let same : c ≡ call = same_Some c call is.1 in
      and_from (same_call c call) (same_answers (answer_to c) told) (rw same (call-itself call)) (rw (same, is.0) (answers-itself (answer_to call))),
)

-- the call in a slot, told by another name
told-same : (w : World) (i : ℕ) (c : Pending) (call : Call) → pending w i ≡ Some c → call_at w i ≡ Some call → c.call ≡ call
told-same w i c call at there = same_Some c.call call (sym (ap (option_map (λ (p : Pending). p.call)) at) ∙ there)

-- ---- of each event

start-told : (setup : Setup) (w : World) (i : ℕ) (call : Call) (told : Option Answer) (w' : World) (a : Answer) → Step setup w (event_at NodeEventKind.Start i) w' a
    → (says setup w i (detail_of NodeEventKind.Start call told) ≡ true) ↔ IsOfStep setup w i (detail_of NodeEventKind.Start call told) w' a
start-told setup w i call told w' a (up, free, sends, offered, leads, done) =
    let by_call = call-told NodeEventKind.Start (λ c. None) (offered_call (offer setup w i)) call told in (
      λ e.
          let (none, there) = by_call.0 e in
          let same : sends ≡ call = same_Some sends call (rw offered at there) in
          (none, rw same at offered, rw same at leads),
      λ is. by_call.1 (is.0, rw is.1 refl),
    )

-- what the callee answers to a call
abbrev reply_at : World → Call → Answer
reply_at w call = reply call.kind (vector w call.callee)

run-told : (setup : Setup) (w : World) (i : ℕ) (call : Call) (told : Option Answer) (w' : World) (a : Answer) → Step setup w (event_at NodeEventKind.Run i) w' a
    → (says setup w i (detail_of NodeEventKind.Run call told) ≡ true) ↔ IsOfStep setup w i (detail_of NodeEventKind.Run call told) w' a
run-told setup w i call told w' a (c, at, sent, up, leads, replies) =
    let by_call = call-told NodeEventKind.Run (λ c. Some (reply_at w c)) (call_at w i) call told in (
      λ e.
          let (is, there) = by_call.0 e in
          (is ∙ ap Some (sym (replies ∙ ap (reply_at w) (told-same w i c call at there))), there),
      λ is. by_call.1 (is.0 ∙ ap Some (replies ∙ ap (reply_at w) (told-same w i c call at is.1)), is.1),
    )

-- what a return brings is its answer
returned-answer : (setup : Setup) (w : World) (i : ℕ) (is_live : Bool) (o : Outcome) (w' : World) (a : Answer) → Returns setup w i is_live o w' a
    → (if is_live then answer_of o else Discarded) ≡ a
returned-answer setup w i true o w' a (goes, is) = sym is
returned-answer setup w i false o w' a (leads, is) = sym is

brought-answer : (setup : Setup) (w : World) (i : ℕ) (c : Pending) (o : Outcome) (w' : World) (a : Answer) → outcome_of c.phase ≡ Some o
    → Returns setup w i c.is_live o w' a → brought c ≡ Some a
brought-answer setup w i c o w' a outcome returns = rw outcome (ap Some (returned-answer setup w i c.is_live o w' a returns))

-- what is said of a call that returns
returned-said : (kind : NodeEventKind) (there : Option Pending) (c : Pending) (a : Answer) → there ≡ Some c → brought c ≡ Some a
    → option_and_then (λ (p : Pending). option_map (answered kind p.call) (brought p)) there ≡ Some (answered kind c.call a)
returned-said kind there c a at brings = rw at (ap (option_map (answered kind c.call)) brings)

return-told : (setup : Setup) (w : World) (i : ℕ) (call : Call) (told : Option Answer) (w' : World) (a : Answer) → Step setup w (event_at NodeEventKind.Return i) w' a
    → (says setup w i (detail_of NodeEventKind.Return call told) ≡ true) ↔ IsOfStep setup w i (detail_of NodeEventKind.Return call told) w' a
return-told setup w i call told w' a (c, o, at, outcome, returns) =
    let said = returned-said NodeEventKind.Return (pending w i) c a at (brought-answer setup w i c o w' a outcome returns) in
    let by_call = call-told NodeEventKind.Return (λ k. Some a) (Some c.call) call told in
    let is_call : call_at w i ≡ Some c.call = ap (option_map (λ (p : Pending). p.call)) at in (
      λ e.
          let (is, there) = by_call.0 (rw said at e) in
          (is, is_call ∙ there),
      λ is. rw said (by_call.1 (is.0, sym is_call ∙ is.1)),
    )

-- what is said of the others is read off the slot alone
abbrev IsQuiet : Saying → Type 0
IsQuiet Saying.Nothing = ⊤
IsQuiet Saying.Offered = ⊥
IsQuiet Saying.Held = ⊤
IsQuiet Saying.Replied = ⊥
IsQuiet Saying.Brought = ⊥

quiet-told : (saying : Saying) (kind : NodeEventKind) (setup : Setup) (w : World) (i : ℕ) (call : Call) (told : Option Answer) (w' : World) (a : Answer) → IsQuiet saying
    → (is_said (said_by saying kind setup w i) (detail_of kind call told) ≡ true) ↔ HasStep saying setup w i call told w' a
quiet-told Saying.Nothing kind setup w i call told w' a quiet = (λ e. absurd (cc e), λ is. absurd is)
quiet-told Saying.Offered kind setup w i call told w' a quiet = absurd quiet
quiet-told Saying.Held kind setup w i call told w' a quiet = call-told kind (λ c. None) (call_at w i) call told
quiet-told Saying.Replied kind setup w i call told w' a quiet = absurd quiet
quiet-told Saying.Brought kind setup w i call told w' a quiet = absurd quiet

detail-told : (setup : Setup) (w : World) (i : ℕ) (kind : NodeEventKind) (call : Call) (told : Option Answer) (w' : World) (a : Answer) → Step setup w (event_at kind i) w' a
    → (says setup w i (detail_of kind call told) ≡ true) ↔ IsOfStep setup w i (detail_of kind call told) w' a
detail-told setup w i NodeEventKind.Start call told w' a step = start-told setup w i call told w' a step
detail-told setup w i NodeEventKind.Run call told w' a step = run-told setup w i call told w' a step
detail-told setup w i NodeEventKind.Return call told w' a step = return-told setup w i call told w' a step
detail-told setup w i kind call told w' a step = quiet-told (node_saying kind) kind setup w i call told w' a tt

pub tells-the-step : TellsTheStep
tells-the-step setup w e w' a step =
    let said = detail-told setup w e.node e.detail.kind e.detail.call e.detail.answer w' a step in (
      λ so.
          let parts = and_parts (is_node setup e.node && is_node setup e.detail.call.callee) (says setup w e.node e.detail) so in
          let within = and_parts (is_node setup e.node) (is_node setup e.detail.call.callee) parts.0 in
          (node-within setup e.node within.0, node-within setup e.detail.call.callee within.1, said.0 parts.1),
      λ is.
          and_from (is_node setup e.node && is_node setup e.detail.call.callee) (says setup w e.node e.detail)
          (and_from (is_node setup e.node) (is_node setup e.detail.call.callee) (is-node setup e.node is.0) (is-node setup e.detail.call.callee is.1))
          (said.1 is.2),
    )
