use Rattle.std.proofs.Common.{arith}
use Rattle.bully.proofs.KnownBytesLemmas.{keeps-refl}
use Rattle.bully.proofs.AnswerLemmas.{told-answer, untold-check}
use Rattle.bully.proofs.checking.answer_judged.Goals as goal

pub returns-in-Ok-clause-answer : goal.returns-in-Ok-clause-answer
returns-in-Ok-clause-answer g c = λ known all.
    told-answer g.E.Write.contents known c.args.judge.now c.verdict-verdict.result c.as_str.result.now _ _ _ _ c.write_sheet.result all c.verdict-verdict.ensures
    (grind (arith, c.as_str.ensures.value, c.in-Ok.ensures, c.world.ensures)) (rw (← c.verdict_status.ensures.status) c.write_sheet.ensures)

pub returns-in-Err-clause-answer : goal.returns-in-Err-clause-answer
returns-in-Err-clause-answer g c = λ known all. untold-check known _ _ _ _ c.answer_stop.result (keeps-refl _) (c.answer_stop.ensures.status, c.answer_stop.ensures.line)
