-- An event other than a Run is applied by its node's own state.
use Rattle.std.proofs.Common.{arith, sym, ◌∙◌, ap, subst}
use Rattle.bully_base.proofs.PlaceLemmas.{put_node-place}
use Rattle.bully_base.specs.Places.{put_node}
use Rattle.bully_calls.specs.Events.{node_of}
use Rattle.bully_world.specs.StateAfter.{CanApplyHere, CanApply, node_after, node_answer}
use Rattle.bully_world.proofs.ApplyLemmas.{place_of_node}
use Rattle.bully_world.proofs.OwnEvents.{is_own}
use Rattle.bully_world.proofs.steps.apply_to_states.Goals as goal

pub apply-requires : goal.apply-requires
apply-requires c =
    let can = ((is_own c.args.setup.now c.args.event.now c.in_default.not-Run).can c.args.states.now).0 c.requires.can in
    let there = place_of_node c.args.states.now (node_of c.args.event.now) c.args.here c.index-states-here.result can.0 c.requires.here in
    let may = subst (CanApplyHere c.args.setup.now c.args.event.now) there can.1 in
    record { at = may.at; room = may.room; may = may.may }

pub returns-in_default : goal.returns-in_default
returns-in_default c =
    let own = is_own c.args.setup.now c.args.event.now c.in_default.not-Run in
    let can = (own.can c.args.states.now).0 c.requires.can in
    let there = place_of_node c.args.states.now (node_of c.args.event.now) c.args.here c.index-states-here.result can.0 c.requires.here in
    record {
      after =
          sym (put_node-place c.args.states.now c.args.here (node_of c.args.event.now) c.apply.new.self c.requires.here)
          ∙ ap (put_node c.args.states.now (node_of c.args.event.now)) (c.apply.ensures.after ∙ ap (node_after c.args.setup.now c.args.event.now) (sym there))
          ∙ sym (own.after c.args.states.now);
      answer = c.apply.ensures.answer ∙ ap (node_answer c.args.event.now) (sym there) ∙ sym (own.answer c.args.states.now);
    }

pub run_call-requires-clause-can : goal.run_call-requires-clause-can
run_call-requires-clause-can c = subst (CanApply c.args.setup.now c.args.states.now) c.in-Run.is c.requires.can

pub run_call-requires-clause-here : goal.run_call-requires-clause-here
run_call-requires-clause-here c = c.requires.here ∙ ap node_of c.in-Run.is

pub bounds-states-here : goal.bounds-states-here
bounds-states-here c =
    let can = ((is_own c.args.setup.now c.args.event.now c.in_default.not-Run).can c.args.states.now).0 c.requires.can in
    omega (arith, can.0, c.requires.here)
