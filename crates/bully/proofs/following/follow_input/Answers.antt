use Rattle.std.proofs.Common.{refl}
use Rattle.bully.proofs.FollowLemmas.{followed-answer, unfollowed-answer}
use Rattle.bully.proofs.following.follow_input.Goals as goal

pub returns-in-Ok-clause-answer : goal.returns-in-Ok-clause-answer
returns-in-Ok-clause-answer g c = followed-answer (g.R.Read.remaining c.args.input) _ c.in-Ok.verdict c.verdict_status.result c.in-Ok.ensures.verdict c.verdict_status.ensures.status

pub returns-in-Err-clause-answer : goal.returns-in-Err-clause-answer
returns-in-Err-clause-answer g c =
    unfollowed-answer c.in-Err.fault.cause (g.R.Read.remaining c.args.input) _ _ c.in-Err.fault c.answer_fault.result refl c.in-Err.ensures.fault c.answer_fault.ensures.form c.answer_fault.ensures.other
