use Rattle.bully_work.proofs.AskedLemmas.{asked_ever_lem, asked_plan_lem}
use Rattle.bully_work.proofs.asked_apart.Goals as goal

pub returns-clause-plan : goal.returns-clause-plan
returns-clause-plan c = asked_plan_lem

pub returns-clause-ever : goal.returns-clause-ever
returns-clause-ever c = asked_ever_lem
