use Rattle.std.proofs.Common.{◌∙◌, ◌++◌, length, take, string_bytes, ap, sym, rules}
use Rattle.std.proofs.lemmas.Iterator.{YieldsList-from_chars}
use Rattle.std.proofs.lemmas.Iterator.Consumers.{YieldsList-turn, YieldsList-end}
use Rattle.std.proofs.lemmas.List.{length_push}
use Rattle.std.specs.Str.{chars}
use Rattle.bully_json.specs.Objects.{escaped}
use Rattle.bully_json.proofs.ObjectLemmas.{letter-more, letters-all}
use Rattle.bully_json.proofs.values.push_escaped.Goals as goal

pub loop-letter-preserved : goal.loop-letter-preserved
loop-letter-preserved c =
    let t = YieldsList-turn (YieldsList-from_chars c.args.raw.now c.utf8.raw cc) c.loop-letter.yielded _ c.loop-letter.yielded_by _ _ c.in-Some.letter c.in-Some.is c.next.ensures.steps in
    letter-more _ _ _ (chars c.args.raw.now) (length c.loop-letter.yielded) c.in-Some.letter c.loop-letter.invariant t.0 t.1 (search rules)
    ∙ ap (λ n. string_bytes c.args.text.now ++ escaped (take n (chars c.args.raw.now))) (sym (length_push c.loop-letter.yielded c.in-Some.letter))

pub returns : goal.returns
returns c =
    let t = YieldsList-end (YieldsList-from_chars c.args.raw.now c.utf8.raw cc) c.loop-letter.yielded _ c.loop-letter.yielded_by _ _ c.in-None.is c.next.ensures.steps in
    letters-all _ _ (chars c.args.raw.now) (length c.loop-letter.yielded) c.loop-letter.invariant t.1
