use Rattle.std.proofs.Common.{◌∙◌, rules, arith, refl, sym}
use Rattle.bully_text.proofs.EachLemmas.{each-all, each-cut, each-more}
use Rattle.bully_text.proofs.bounded.taken_each.Goals as goal

pub loop-bytes-init : goal.loop-bytes-init
loop-bytes-init c = record { given = λ rest. refl; end = search rules }

pub loop-bytes-preserved : goal.loop-bytes-preserved
loop-bytes-preserved c =
    let at = c.loop-bytes in
    record {
      given = each-more c.args.from at.place c.place_after-place.result c.args.before at.count c.in-Some.more at.bytes c.args.given.now c.loop-bytes-test.true (sym c.count_after.ensures ∙ c.in-Some.is) c.place_after-place.ensures at.invariant.given;
      end = refl;
    }

pub returns-in-None : goal.returns-in-None
returns-in-None c =
    let at = c.loop-bytes in
    record {
      within = at.auto.bytes-end;
      whole = search rules;
      left = λ rest. each-cut c.args.from at.place c.args.before at.count at.bytes c.args.given.now rest c.loop-bytes-test.true (sym c.count_after.ensures ∙ c.in-None.is) at.invariant.given;
    }

pub returns : goal.returns
returns c =
    let at = c.loop-bytes in
    record {
      within = omega arith;
      whole = search rules;
      left = each-all c.args.from at.place c.args.before at.count at.bytes c.args.given.now at.auto.bytes-end c.loop-bytes-test.false at.invariant.given;
    }
