-- The event changes to whom its own node's call is sent, and nobody else's.
use Rattle.std.proofs.Common.{◌≡◌, ◌≤◌, ◌<◌, ℕ, arith, length, Option, sym, ◌∙◌, ap, subst, IfSome}
use Rattle.bully_calls.specs.Events.{node_of}
use Rattle.bully_world.specs.State.{kept_of}
use Rattle.bully_world.specs.StateAfter.{state_after}
use Rattle.bully_world.specs.Waiting.{IsWaiting, sent_in, with_sent, without_sent}
use Rattle.bully_world.proofs.ApplyLemmas.{place_of_node}
use Rattle.bully_world.proofs.Events.{event_laws}
use Rattle.bully_world.proofs.WaitingLemmas.{sent_within, waiting_after}
use Rattle.bully_world.proofs.steps.apply_event.Goals as goal

pub update_waiting-requires-clause-before : goal.update_waiting-requires-clause-before
update_waiting-requires-clause-before c =
    let i = node_of c.args.event.now in
    let there = place_of_node c.args.states.now i c.place_of-place.result c.index-states-place.result c.requires.node (c.place_of-place.ensures ∙ c.node-node.ensures) in
    let was : sent_in (kept_of c.args.states.now i) ≡ c.sent_to-before.result = ap sent_in there ∙ sym c.sent_to-before.ensures in
    subst (λ (o : Option ℕ). IfSome o (λ j. j ≤ length c.args.waiting.now)) was (sent_within c.args.states.now c.args.waiting.now i c.requires.waiting)

pub returns-clause-waiting : goal.returns-clause-waiting
returns-clause-waiting c =
    let ms = c.args.states.now in
    let i = node_of c.args.event.now in
    let next = state_after c.args.setup.now ms c.args.event.now in
    let there = place_of_node ms i c.place_of-place.result c.index-states-place.result c.requires.node (c.place_of-place.ensures ∙ c.node-node.ensures) in
    let was : sent_in (kept_of ms i) ≡ c.sent_to-before.result = ap sent_in there ∙ sym c.sent_to-before.ensures in
    let room : i ≤ length c.apply_to_states-answer.new.states = omega (arith, c.requires.node, ap length c.apply_to_states-answer.ensures.after, (event_laws c.args.setup.now c.args.event.now).many ms) in
    let then_there = place_of_node c.apply_to_states-answer.new.states i c.place_of-place.result c.index-states-place-2.result room (c.place_of-place.ensures ∙ c.node-node.ensures) in
    let now : sent_in (kept_of next i) ≡ c.sent_to-after.result = ap (λ xs. sent_in (kept_of xs i)) (sym c.apply_to_states-answer.ensures.after) ∙ ap sent_in then_there ∙ sym c.sent_to-after.ensures in
    let sent = subst (λ (o : Option ℕ). IfSome o (λ j. (0 < j) × (j ≤ length ms))) now c.requires.sent in
    let kept : c.update_waiting.new.waiting ≡ with_sent i c.sent_to-after.result (without_sent i c.sent_to-before.result c.args.waiting.now) = c.update_waiting.ensures ∙ ap (λ k. with_sent k c.sent_to-after.result (without_sent k c.sent_to-before.result c.args.waiting.now)) c.node-node.ensures in
    subst (λ xs. IsWaiting xs c.update_waiting.new.waiting) (sym c.apply_to_states-answer.ensures.after)
    (subst (IsWaiting next) (sym kept) (waiting_after c.args.setup.now ms c.args.event.now c.args.waiting.now c.sent_to-before.result c.sent_to-after.result c.requires.waiting was now sent))
