use Rattle.std.proofs.Common.{◌≡◌, ◌∙◌, rules, arith, refl, sym}
use Rattle.bully_text.proofs.PlainLemmas.{count-none, count-some, count_behind, plain-whole}
use Rattle.bully_text.proofs.bounded.taken_plain.Goals as goal
use Rattle.bully_text.proofs.bounded.taken_plain.Goals.{in-None, in-Some}

pub returns : goal.returns
returns c =
    let given = c.args.given.now in
    let counted : c.match-memrchr2.count ≡ count_behind c.args.count given =
    elim c.match-memrchr2.branch [
      | in-Some w ↦ w.count-is ∙ sym (count-some c.args.count w.in-Some.end given w.in-Some.ensures.0.high w.in-Some.ensures.1 w.in-Some.ensures.0.after)
      | in-None w ↦ w.count-is ∙ sym (count-none c.args.count given w.in-None.ensures)
    ] in
    record {
      within = omega arith;
      whole = λ e. refl;
      left = plain-whole c.args.place c.place_outside.result c.args.count c.match-memrchr2.count given c.requires.place c.requires.room c.requires.quotes (search rules) c.place_outside.ensures counted;
    }
