use Rattle.bully.proofs.AnswerLemmas.{fault-answer}
use Rattle.bully.proofs.DrawLemmas.{drawn-answer, none-drawn}
use Rattle.bully.proofs.KnownBytesLemmas.{keeps-refl}
use Rattle.bully.proofs.drawing.draw_input.Goals as goal

pub returns-in-Ok-clause-answer : goal.returns-in-Ok-clause-answer
returns-in-Ok-clause-answer g c =
    drawn-answer g.W.Write.contents g.E.Write.contents (g.R.Read.remaining c.args.input) _ _ c.in-Ok.film.finished _ _ _ _ c.draw_finished.result c.in-Ok.ensures.told c.draw_finished.ensures.answer

pub returns-in-Err-clause-answer : goal.returns-in-Err-clause-answer
returns-in-Err-clause-answer g c =
    none-drawn (g.R.Read.remaining c.args.input) _ _ _ _ _ _ _
    (fault-answer c.in-Err.fault.cause (g.R.Read.remaining c.args.input) c.in-Err.fault _ _ _ _ _ c.in-Err.ensures.fault.first
    (λ _. keeps-refl _) (λ write. absurd (c.in-Err.ensures.fault.read write)) c.answer_fault.ensures.form c.answer_fault.ensures.other)
