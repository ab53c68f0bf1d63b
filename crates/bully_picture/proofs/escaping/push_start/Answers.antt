use Rattle.std.proofs.Common.{◌≡◌, ◌<◌, length, get_or, string_bytes, subst, sym, arith}
use Rattle.std.proofs.lemmas.Iterator.{YieldsList-from_chars}
use Rattle.std.proofs.lemmas.Iterator.Consumers.{YieldsList-turn, YieldsList-end}
use Rattle.std.proofs.lemmas.List.{length_push}
use Rattle.std.proofs.lemmas.Result.{on_ok_weaker}
use Rattle.std.specs.Str.{chars}
use Rattle.bully_picture.proofs.EscapeLemmas.{letter-more, start-cut, start-whole}
use Rattle.bully_picture.proofs.HarmlessLemmas.{start-harmless}
use Rattle.bully_picture.proofs.escaping.push_start.Goals as goal

pub returns-then-count-most-clause-escaped : goal.returns-then-count-most-clause-escaped
returns-then-count-most-clause-escaped c =
    let t = YieldsList-turn (YieldsList-from_chars c.args.raw.now c.utf8.raw cc) c.loop-letter.yielded _ c.loop-letter.yielded_by _ _ c.in-Some.letter c.in-Some.is c.next.ensures.steps in
    let more : c.loop-letter.count < length (chars c.args.raw.now) = omega (arith, t.0, c.loop-letter.invariant.count) in
    on_ok_weaker c.push_letter.result
    (λ dots. start-cut (string_bytes c.args.text.now) (string_bytes c.loop-letter.text) (string_bytes c.push_letter.new.text) (chars c.args.raw.now) c.loop-letter.count c.args.most
    c.loop-letter.invariant.text more c.loop-letter.invariant.few (omega (arith, c.if-count-most.true)) dots)
    c.push_letter.ensures

pub loop-letter-preserved : goal.loop-letter-preserved
loop-letter-preserved c =
    let t = YieldsList-turn (YieldsList-from_chars c.args.raw.now c.utf8.raw cc) c.loop-letter.yielded _ c.loop-letter.yielded_by _ _ c.in-Some.letter c.in-Some.is c.next.ensures.steps in
    let more : c.loop-letter.count < length (chars c.args.raw.now) = omega (arith, t.0, c.loop-letter.invariant.count) in
    let is : c.in-Some.letter ≡ get_or (chars c.args.raw.now) c.loop-letter.count c.in-Some.letter =
    subst (λ n. c.in-Some.letter ≡ get_or (chars c.args.raw.now) n c.in-Some.letter) (sym c.loop-letter.invariant.count) t.1 in
    let pushed = length_push c.loop-letter.yielded c.in-Some.letter in
    record {
      text = letter-more (string_bytes c.args.text.now) (string_bytes c.loop-letter.text) _ (chars c.args.raw.now) c.loop-letter.count c.in-Some.letter
          c.loop-letter.invariant.text more is c.in_ok-push_letter.ensures;
      count = omega (arith, pushed, c.loop-letter.invariant.count);
      few = omega (arith, c.if-count-most.false);
    }

pub returns-clause-escaped : goal.returns-clause-escaped
returns-clause-escaped c =
    let t = YieldsList-end (YieldsList-from_chars c.args.raw.now c.utf8.raw cc) c.loop-letter.yielded _ c.loop-letter.yielded_by _ _ c.in-None.is c.next.ensures.steps in
    start-whole (string_bytes c.args.text.now) (string_bytes c.loop-letter.text) (chars c.args.raw.now) c.loop-letter.count c.args.most
    c.loop-letter.invariant.text (omega (arith, t.1, c.loop-letter.invariant.count)) c.loop-letter.invariant.few

pub returns-clause-harmless : goal.returns-clause-harmless
returns-clause-harmless c = start-harmless c.args.most c.args.raw.now c.utf8.raw

pub returns-in_err-push_letter-clause-harmless : goal.returns-in_err-push_letter-clause-harmless
returns-in_err-push_letter-clause-harmless c = start-harmless c.args.most c.args.raw.now c.utf8.raw

pub returns-then-count-most-clause-harmless : goal.returns-then-count-most-clause-harmless
returns-then-count-most-clause-harmless c = start-harmless c.args.most c.args.raw.now c.utf8.raw
