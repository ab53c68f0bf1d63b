use Rattle.std.proofs.Common.{inr, refl}
use Rattle.bully.specs.declared.telling.Stop.{Stop}
use Rattle.bully.proofs.tables.answer_plan.Goals as goal

pub returns-then-is_err : goal.returns-then-is_err
returns-then-is_err g c = inr (c.answer_stop-then-is_err.ensures.status, Stop.Write, (λ other. absurd (other refl)), c.answer_stop-then-is_err.ensures.line)
