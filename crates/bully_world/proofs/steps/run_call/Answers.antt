-- The call in the caller's slot goes to another node of the setup, at which it may run.
use Rattle.std.proofs.Common.{arith, sym, ◌∙◌, ap}
use Rattle.bully_world.specs.StateAfter.{state_after_run, run_answer}
use Rattle.bully_world.proofs.ExchangeLemmas.{RunsBetween, runs_between, run-answer, run-after}
use Rattle.bully_world.proofs.steps.run_call.Goals as goal
use Rattle.bully_world.proofs.steps.run_call.Goals.{After-place_of}

between : (c : After-place_of) → RunsBetween c.args.states.now c.args.caller c.args.here c.place_of.result
between c = runs_between c.args.states.now c.args.caller c.args.here c.place_of.result c.requires.can c.index-states-here.result c.unwrap-call.result c.requires.here c.place_of.ensures c.index-states-here.is (grind (arith, c.slot.ensures, c.call.ensures, c.unwrap-call.ensures))

pub run_between-requires-clause-can : goal.run_between-requires-clause-can
run_between-requires-clause-can c = (between c).can

pub returns-clause-answer : goal.returns-clause-answer
returns-clause-answer c =
    let from = between c.before.before in
    run-answer c.args.states.now c.args.caller c.args.here c.place_of.result c.run_between.result from c.run_between.ensures.answer
    ∙ ap (run_answer c.args.states.now) (sym from.content)

pub returns-clause-after : goal.returns-clause-after
returns-clause-after c =
    let from = between c.before.before in
    let answer = run-answer c.args.states.now c.args.caller c.args.here c.place_of.result c.run_between.result from c.run_between.ensures.answer in
    run-after c.args.states.now c.run_between.new.states c.args.caller c.args.here c.place_of.result c.run_between.result from answer c.run_between.ensures.after
    ∙ ap (state_after_run c.args.states.now c.args.caller) (sym from.content)
