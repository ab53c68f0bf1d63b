use Rattle.std.proofs.Common.{ap}
use Rattle.bully.proofs.KnownBytesLemmas.{keeps-same}
use Rattle.bully.proofs.AnswerLemmas.{judged-answer, fault-answer, none-judged}
use Rattle.bully.proofs.checking.answer_check.Goals as goal

pub returns-in-Ok-clause-answer : goal.returns-in-Ok-clause-answer
returns-in-Ok-clause-answer g c =
    rw c.if-is_json.false (judged-answer g.E.Write.contents (g.R.Read.remaining c.args.input) c.in-Ok.verdict _ _ _ _ _ c.finish.result c.in-Ok.ensures.verdict
    (rw (← c.verdict_status.ensures.status) c.finish.ensures))

pub returns-in-Err-clause-answer : goal.returns-in-Err-clause-answer
returns-in-Err-clause-answer g c =
    rw c.if-is_json.false (none-judged (g.R.Read.remaining c.args.input) _ _ _ _ _
    (fault-answer c.in-Err.fault.cause (g.R.Read.remaining c.args.input) c.in-Err.fault _ _ _ _ _ c.in-Err.ensures.fault
    (λ silent. keeps-same _ _ (ap g.W.Write.contents (c.in-Err.ensures.silent silent))) c.in-Err.ensures.read c.answer_fault.ensures.form c.answer_fault.ensures.other))
