use Rattle.bully_agree.proofs.FenceLemmas.{last_plan_lem}
use Rattle.bully_agree.proofs.PlanLemmas.{one_last}
use Rattle.bully_agree.proofs.last_plan.Goals as goal

pub returns-clause-goes_by : goal.returns-clause-goes_by
returns-clause-goes_by c = last_plan_lem

pub returns-clause-one : goal.returns-clause-one
returns-clause-one c = one_last
