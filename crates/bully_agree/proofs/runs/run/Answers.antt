use Rattle.std.proofs.Common.{◌≡◌, None, Some, arith, rules, refl, subst, ◌∙◌}
use Rattle.std.proofs.lemmas.Option.{slice_get_read}
use Rattle.bully_world.specs.Cause.{cause}
use Rattle.bully_world.specs.State.{world_of}
use Rattle.bully_world.specs.Step.{Step}
use Rattle.bully_agree.proofs.RunLemmas.{never_stops, run-more, run-stops}
use Rattle.bully_agree.proofs.runs.run.Goals as goal

pub loop-index-preserved : goal.loop-index-preserved
loop-index-preserved c =
    let w = c.loop-index.world in
    let e = c.index-events-index.result in
    let there = slice_get_read c.args.events.now _ c.loop-index.index e refl c.loop-index-test.true c.index-events-index.is in
    let none : cause c.args.setup (world_of w) w.events e ≡ None = subst (λ s. cause s (world_of w) w.events e ≡ None) c.loop-index.invariant.setup (c.in_default.ensures.exact.0 refl) in
    let step : Step c.args.setup (world_of w) e (world_of c.apply.new.self) c.in_default.field-0 = subst (λ s. Step s (world_of w) e (world_of c.apply.new.self) c.in_default.field-0) c.loop-index.invariant.setup c.in_default.ensures.applied.step in
    record {
      setup = c.in_default.ensures.applied.setup ∙ c.loop-index.invariant.setup;
      counted = grind (arith, c.in_default.ensures.applied.counted, c.loop-index.invariant.counted);
      lawful = run-more c.args.setup c.args.events.now c.loop-index.index w.events e (world_of w) (world_of c.apply.new.self) c.in_default.field-0
          there c.loop-index.invariant.counted none step c.loop-index.invariant.lawful;
      end = refl;
    }

pub returns-in-Err-clause-stop : goal.returns-in-Err-clause-stop
returns-in-Err-clause-stop c =
    let w = c.loop-index.world in
    let e = c.index-events-index.result in
    let there = slice_get_read c.args.events.now _ c.loop-index.index e refl c.loop-index-test.true c.index-events-index.is in
    let why : cause c.args.setup (world_of w) w.events e ≡ Some c.in-Err.cause = subst (λ s. cause s (world_of w) w.events e ≡ Some c.in-Err.cause) c.loop-index.invariant.setup c.in-Err.ensures.why in
    let stops = run-stops c.args.setup c.args.events.now c.loop-index.index w.events e (world_of w) c.in-Err.cause there c.loop-index.invariant.counted why c.loop-index.invariant.lawful in
    search (rules, stops)

pub returns-in-Err-clause-lawful_runs : goal.returns-in-Err-clause-lawful_runs
returns-in-Err-clause-lawful_runs c = λ can. absurd (never_stops c.args.setup c.args.events.now c.loop-index.index c.in-Err.cause can.1.0 can.0 (returns-in-Err-clause-stop c) can.1.1)
