use Rattle.std.proofs.Common.{◌≡◌, refl, sym, subst, ap, ◌∙◌, IfSome}
use Rattle.bully.specs.Answer.{is_given}
use Rattle.bully.specs.DrawAnswer.{IsNamedPicture, claims_asked}
use Rattle.bully_cli.specs.Words.{drawn_of}
use Rattle.bully_picture.specs.declared.claims.Claims.{Claims}
use Rattle.bully.proofs.DrawLemmas.{no-window, window-answer}
use Rattle.bully.proofs.KnownBytesLemmas.{keeps-refl}
use Rattle.bully.proofs.drawing.draw_as.Goals as goal

pub returns-in-None-clause-answer : goal.returns-in-None-clause-answer
returns-in-None-clause-answer g c =
    let output = g.W.Write.contents c.args.output.now in
    no-window (g.R.Read.remaining c.args.input) c.args.form (drawn_of c.args.words.now) output output (g.E.Write.contents c.args.errors.now) (g.E.Write.contents c.tell.new.errors) 2
    (sym c.window_of.ensures ∙ c.in-None.is) (keeps-refl output, c.tell.ensures, refl)

pub returns-in-Some-clause-answer : goal.returns-in-Some-clause-answer
returns-in-Some-clause-answer g c =
    let words = drawn_of c.args.words.now in
    let claims : c.claims_of.result ≡ claims_asked (is_given words.without_claims) = c.claims_of.ensures ∙ ap claims_asked c.is_given.ensures in
    window-answer (g.R.Read.remaining c.args.input) c.in-Some.window c.args.form words
    (g.W.Write.contents c.args.output.now) (g.W.Write.contents c.draw_words.new.output) (g.E.Write.contents c.args.errors.now) (g.E.Write.contents c.draw_words.new.errors)
    c.draw_words.result (sym c.window_of.ensures ∙ c.in-Some.is)
    (subst (λ (k : Claims). IfSome (g.R.Read.remaining c.args.input) (λ bytes. IsNamedPicture bytes words.names (record { window = c.in-Some.window; form = c.args.form; claims = k })
    (g.W.Write.contents c.args.output.now) (g.W.Write.contents c.draw_words.new.output) (g.E.Write.contents c.args.errors.now) (g.E.Write.contents c.draw_words.new.errors) c.draw_words.result))
    claims c.draw_words.ensures.answer)
