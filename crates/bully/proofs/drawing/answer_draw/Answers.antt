use Rattle.std.proofs.Common.{◌≡◌, refl, sym, ap₂, ◌∙◌}
use Rattle.bully.specs.Answer.{is_given}
use Rattle.bully.specs.DrawAnswer.{form_asked}
use Rattle.bully_cli.specs.Words.{drawn_of}
use Rattle.bully.proofs.DrawLemmas.{form-answer, two-forms}
use Rattle.bully.proofs.KnownBytesLemmas.{keeps-refl}
use Rattle.bully.proofs.drawing.answer_draw.Goals as goal

pub returns-in-None-clause-answer : goal.returns-in-None-clause-answer
returns-in-None-clause-answer g c =
    let words = drawn_of c.args.words.now in
    let asked : c.form_of.result ≡ form_asked (is_given words.text) (is_given words.html) = ◌∙◌ {b = form_asked c.is_given.result c.is_given-2.result} c.form_of.ensures (ap₂ form_asked c.is_given.ensures c.is_given-2.ensures) in
    let output = g.W.Write.contents c.args.output.now in
    two-forms (g.R.Read.remaining c.args.input) words output output (g.E.Write.contents c.args.errors.now) (g.E.Write.contents c.tell.new.errors) 2
    (sym asked ∙ c.in-None.is) (keeps-refl output, c.tell.ensures, refl)

pub returns-in-Some-clause-answer : goal.returns-in-Some-clause-answer
returns-in-Some-clause-answer g c =
    let words = drawn_of c.args.words.now in
    let asked : c.form_of.result ≡ form_asked (is_given words.text) (is_given words.html) = ◌∙◌ {b = form_asked c.is_given.result c.is_given-2.result} c.form_of.ensures (ap₂ form_asked c.is_given.ensures c.is_given-2.ensures) in
    form-answer (g.R.Read.remaining c.args.input) c.in-Some.form words
    (g.W.Write.contents c.args.output.now) (g.W.Write.contents c.draw_as.new.output) (g.E.Write.contents c.args.errors.now) (g.E.Write.contents c.draw_as.new.errors)
    c.draw_as.result (sym asked ∙ c.in-Some.is) c.draw_as.ensures.answer
