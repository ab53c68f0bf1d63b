use Rattle.std.proofs.Common.{◌∙◌, ◌++◌, length, take, string_bytes, ap, sym, rules, map}
use Rattle.std.proofs.lemmas.Iterator.{YieldsList-from_chars}
use Rattle.std.proofs.lemmas.Iterator.Consumers.{YieldsList-turn, YieldsList-end}
use Rattle.std.proofs.lemmas.List.{length_push}
use Rattle.std.specs.Str.{chars, encode_utf8_all}
use Rattle.bully_draft.specs.Shown.{shown_letter}
use Rattle.bully_draft.proofs.ShownLemmas.{letter-more, letters-all, shown-plain}
use Rattle.bully_draft.proofs.shown.push_shown.Goals as goal

pub loop-letter-preserved : goal.loop-letter-preserved
loop-letter-preserved c =
    let t = YieldsList-turn (YieldsList-from_chars c.args.raw.now c.utf8.raw cc) c.loop-letter.yielded _ c.loop-letter.yielded_by _ _ c.in-Some.letter c.in-Some.is c.next.ensures.steps in
    letter-more _ _ _ (chars c.args.raw.now) (length c.loop-letter.yielded) c.in-Some.letter c.loop-letter.invariant t.0 t.1 (search rules)
    ∙ ap (λ n. string_bytes c.args.text.now ++ encode_utf8_all (map shown_letter (take n (chars c.args.raw.now)))) (sym (length_push c.loop-letter.yielded c.in-Some.letter))

pub returns-clause-shown : goal.returns-clause-shown
returns-clause-shown c =
    let t = YieldsList-end (YieldsList-from_chars c.args.raw.now c.utf8.raw cc) c.loop-letter.yielded _ c.loop-letter.yielded_by _ _ c.in-None.is c.next.ensures.steps in
    letters-all _ _ (chars c.args.raw.now) (length c.loop-letter.yielded) c.loop-letter.invariant t.1

pub returns-clause-plain : goal.returns-clause-plain
returns-clause-plain c = shown-plain c.args.raw.now c.utf8.raw

pub returns-in_err-push-clause-plain : goal.returns-in_err-push-clause-plain
returns-in_err-push-clause-plain c = shown-plain c.args.raw.now c.utf8.raw
