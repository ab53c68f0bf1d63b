use Rattle.std.proofs.Common.{arith, refl, sym, ◌∙◌}
use Rattle.std.proofs.lemmas.Option.{slice_get_read}
use Rattle.bully_agree.proofs.WholeLemmas.{not_between, whole-between, whole-breaks, whole-cut, whole-ends, whole-next}
use Rattle.bully_agree.proofs.whole_calls.first_break.Goals as goal

pub loop-index-init : goal.loop-index-init
loop-index-init c = record { led = record { rest = whole-between }; end = refl }

pub loop-index-preserved : goal.loop-index-preserved
loop-index-preserved c = record {
  led = whole-next c.args.events.now c.loop-index.index c.index-events-index.result c.loop-index.progress _
      (slice_get_read c.args.events.now _ c.loop-index.index c.index-events-index.result refl c.loop-index-test.true c.index-events-index.is) c.loop-index.invariant.led (sym c.in-Some.is ∙ c.after.ensures);
  end = refl;
}

pub returns-in-None-clause-breaks : goal.returns-in-None-clause-breaks
returns-in-None-clause-breaks c =
    whole-breaks c.args.events.now c.loop-index.index c.index-events-index.result c.loop-index.progress
    (slice_get_read c.args.events.now _ c.loop-index.index c.index-events-index.result refl c.loop-index-test.true c.index-events-index.is) c.loop-index.invariant.led (sym c.in-None.is ∙ c.after.ensures)

pub returns-in-Between-clause-whole : goal.returns-in-Between-clause-whole
returns-in-Between-clause-whole c =
    whole-ends c.args.events.now c.loop-index.index c.loop-index.progress (omega (arith, c.loop-index-test.false, c.loop-index.auto.index-end)) c.loop-index.invariant.led c.in-Between.is

pub returns-in_default : goal.returns-in_default
returns-in_default c = record {
  breaks = whole-cut c.args.events.now c.loop-index.index c.loop-index.progress (omega (arith, c.loop-index-test.false, c.loop-index.auto.index-end)) c.loop-index.invariant.led
      (not_between c.loop-index.progress c.in_default.not-Between);
  whole = tt;
}
