use Rattle.bully.proofs.KnownBytesLemmas.{keeps-refl}
use Rattle.bully.proofs.AnswerLemmas.{fault-answer, none-told}
use Rattle.bully.proofs.checking.check_for_tools.Goals as goal

pub returns-in-Err-clause-answer : goal.returns-in-Err-clause-answer
returns-in-Err-clause-answer g c =
    none-told (g.R.Read.remaining c.args.input) _ _ _ _ _
    (fault-answer c.in-Err.fault.cause (g.R.Read.remaining c.args.input) c.in-Err.fault _ _ _ _ _ c.in-Err.ensures.fault.first (λ _. keeps-refl _) (λ write. absurd (c.in-Err.ensures.fault.read write))
    c.answer_fault.ensures.form c.answer_fault.ensures.other)
