use Rattle.std.proofs.Common.{inr, []}
use Rattle.bully.proofs.DrawLemmas.{refused-by}
use Rattle.bully.proofs.KnownBytesLemmas.{keeps-refl}
use Rattle.bully.proofs.drawing.draw_named.Goals as goal

pub returns-in-Ok-clause-answer : goal.returns-in-Ok-clause-answer
returns-in-Ok-clause-answer g c = (c.as_slice.result.now, c.draw_with.ensures.answer)

pub returns-in-Err-clause-answer : goal.returns-in-Err-clause-answer
returns-in-Err-clause-answer g c =
    ([], refused-by (g.R.Read.remaining c.args.input) [] _ _ _ _ _ _ (inr (c.in-Err.stop, (λ _. keeps-refl _), c.answer_stop.ensures.line, c.answer_stop.ensures.status)))
