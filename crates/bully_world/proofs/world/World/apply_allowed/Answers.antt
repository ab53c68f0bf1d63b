-- What is kept after the event is what the definitions' step makes of it.
use Rattle.std.proofs.Common.{◌≡◌, ◌+◌, ◌<◌, ◌≤◌, ◌^◌, ℕ, List, rules, arith, None, sym, ◌∙◌, ap, subst, length, take, drop, ◌++◌, IfSome, if◌then◌else◌}
use Rattle.bully_base.specs.Places.{at_node}
use Rattle.bully_calls.specs.Events.{node_of}
use Rattle.bully_world.specs.Cause.{cause}
use Rattle.bully_world.specs.State.{StoredNode, WorldState, kept_of, IsWorld, world_in, state_at, world_of, cause_in, empty_state, raises, tag_in}
use Rattle.bully_world.specs.Step.{Step}
use Rattle.bully_world.specs.StateAfter.{CanApply, state_after, answer_after}
use Rattle.bully_world.specs.Waiting.{IsWaiting, sent_in}
use Rattle.bully_world.proofs.Events.{event_laws}
use Rattle.bully_world.proofs.ApplyLemmas.{room_of, node_in_setup}
use Rattle.bully_world.proofs.WaitingLemmas.{sent_to_node}
use Rattle.bully_world.proofs.WorldLemmas.{world_fits, world_steps, next_world, put_back}
use Rattle.bully_world.proofs.world.World.apply_allowed.Goals as goal

pub apply_event-answer-requires : goal.apply_event-answer-requires
apply_event-answer-requires c =
    let ms = c.self.inside.states.items in
    let free : cause c.self.inside.setup (world_in ms) c.self.inside.events c.args.event.now ≡ None = subst (λ s. cause_in s c.args.event.now ≡ None) (sym c.self.view_is) c.requires in
    let room : c.self.inside.events + 1 < 2 ^ 32 = search rules in
    let fits = world_fits c.self.inside.setup c.self.inside.events ms c.self.invariant.0 in
    let i = node_of c.args.event.now in
    let here : i ≤ length ms = omega (arith, c.self.invariant.0.count, (node_in_setup c.self.inside.setup (world_in ms) c.self.inside.events c.args.event.now free).1) in
    let next = state_after c.self.inside.setup ms c.args.event.now in
    let next_fits = world_fits c.self.inside.setup (c.self.inside.events + 1) next (next_world c.self.inside.setup c.self.inside.events ms c.args.event.now c.self.invariant.0 free) in
    let sent = subst (λ (n : ℕ). IfSome (sent_in (kept_of next i)) (λ j. (0 < j) × (j ≤ n))) (sym c.self.invariant.0.count) (sent_to_node c.self.inside.setup next i next_fits) in
    record {
      can = subst (λ xs. CanApply c.self.inside.setup xs c.args.event.now) (sym c.as_mut_slice.ensures.value) ((event_laws c.self.inside.setup c.args.event.now).can c.self.inside.events ms (record { all = fits; kept = c.self.invariant.0.kept }) room free);
      node = subst (λ (xs : List StoredNode). i ≤ length xs) (sym c.as_mut_slice.ensures.value) here;
      sent = subst (λ (xs : List StoredNode). IfSome (sent_in (kept_of (state_after c.self.inside.setup xs c.args.event.now) i)) (λ j. (0 < j) × (j ≤ length xs))) (sym c.as_mut_slice.ensures.value) sent;
      waiting = subst (λ xs. IsWaiting xs c.self.inside.waiting) (sym c.as_mut_slice.ensures.value) c.self.invariant.1;
    }

pub invariant_of-self : goal.invariant_of-self
invariant_of-self c =
    let ms = c.self.inside.states.items in
    let free : cause c.self.inside.setup (world_in ms) c.self.inside.events c.args.event.now ≡ None = subst (λ s. cause_in s c.args.event.now ≡ None) (sym c.self.view_is) c.requires in
    let next : c.apply_event-answer.new.states ≡ state_after c.self.inside.setup ms c.args.event.now = c.apply_event-answer.ensures.after ∙ ap (λ xs. state_after c.self.inside.setup xs c.args.event.now) c.as_mut_slice.ensures.value in
    let whole = put_back c.self.inside.states.len c.apply_event-answer.new.states ms (ap length next ∙ (event_laws c.self.inside.setup c.args.event.now).many ms ∙ sym c.self.inside.states.ok.0) (sym c.self.inside.states.ok.0) in
    let back = whole ∙ next in
    (subst (λ xs. IsWorld (record { setup = c.self.inside.setup; events = c.self.inside.events + 1; states = xs })) (sym back) (next_world c.self.inside.setup c.self.inside.events ms c.args.event.now c.self.invariant.0 free), subst (λ xs. IsWaiting xs c.apply_event-answer.new.waiting) (sym whole) c.apply_event-answer.ensures.waiting)

pub returns : goal.returns
returns c =
    let w = c.args.self.now in
    let ms = c.self.inside.states.items in
    let free : cause c.self.inside.setup (world_in ms) c.self.inside.events c.args.event.now ≡ None = subst (λ s. cause_in s c.args.event.now ≡ None) (sym c.self.view_is) c.requires in
    let next : c.apply_event-answer.new.states ≡ state_after c.self.inside.setup ms c.args.event.now = c.apply_event-answer.ensures.after ∙ ap (λ xs. state_after c.self.inside.setup xs c.args.event.now) c.as_mut_slice.ensures.value in
    let back = put_back c.self.inside.states.len c.apply_event-answer.new.states ms (ap length next ∙ (event_laws c.self.inside.setup c.args.event.now).many ms ∙ sym c.self.inside.states.ok.0) (sym c.self.inside.states.ok.0) ∙ next in
    let answer = c.apply_event-answer.ensures.answer ∙ ap (λ xs. answer_after xs c.args.event.now) c.as_mut_slice.ensures.value in
    let step = world_steps c.self.inside.setup c.self.inside.events ms c.args.event.now c.self.invariant.0 free in
    let raised = (event_laws c.self.inside.setup c.args.event.now).generations c.self.inside.events ms (record { all = world_fits c.self.inside.setup c.self.inside.events ms c.self.invariant.0; kept = c.self.invariant.0.kept }) free in
    record {
      applied = record {
        step = subst (λ s. Step s.setup (world_of s) c.args.event.now (world_in (take c.self.inside.states.len (c.apply_event-answer.new.states ++ drop (length c.apply_event-answer.new.states) ms))) c.apply_event-answer.result) c.self.view_is
            (subst (λ a. Step c.self.inside.setup (world_in ms) c.args.event.now (world_in (take c.self.inside.states.len (c.apply_event-answer.new.states ++ drop (length c.apply_event-answer.new.states) ms))) a) (sym answer)
            (subst (λ xs. Step c.self.inside.setup (world_in ms) c.args.event.now (world_in xs) (answer_after ms c.args.event.now)) (sym back) step));
        room = room_of w.setup (world_of w) w.events c.args.event.now c.requires;
        counted = ap (λ (s : WorldState). s.events + 1) c.self.view_is;
        generations = λ i. subst (λ s. (at_node (empty_state 0) (take c.self.inside.states.len (c.apply_event-answer.new.states ++ drop (length c.apply_event-answer.new.states) ms)) i).generation ≡ (state_at s i).generation + (if raises (world_of s) c.args.event.now i then 1 else 0)) c.self.view_is
            (subst (λ xs. (at_node (empty_state 0) xs i).generation ≡ (at_node (empty_state 0) ms i).generation + (if raises (world_in ms) c.args.event.now i then 1 else 0)) (sym back) (raised i));
        tags = λ i other. subst (λ s. tag_in (at_node (empty_state 0) (take c.self.inside.states.len (c.apply_event-answer.new.states ++ drop (length c.apply_event-answer.new.states) ms)) i) ≡ tag_in (state_at s i)) c.self.view_is
            (subst (λ xs. tag_in (at_node (empty_state 0) xs i) ≡ tag_in (at_node (empty_state 0) ms i)) (sym back) ((event_laws c.self.inside.setup c.args.event.now).tags ms i other));
        setup = ap (λ (s : WorldState). s.setup) c.self.view_is;
      };
    }
