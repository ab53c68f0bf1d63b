use Rattle.bully_run.proofs.BeginLemmas.{begins_lem, sure_lem}
use Rattle.bully_run.proofs.RunLemmas.{eager_run_lem, knows_lem, now_lem, owner_of_lem, reached_lem, works_lem}
use Rattle.bully_run.proofs.SomeRun.{some_lem}
use Rattle.bully_run.proofs.members_apart.Goals as goal

pub returns-clause-reached : goal.returns-clause-reached
returns-clause-reached c = reached_lem

pub returns-clause-knows : goal.returns-clause-knows
returns-clause-knows c = knows_lem

pub returns-clause-works : goal.returns-clause-works
returns-clause-works c = works_lem

pub returns-clause-owner : goal.returns-clause-owner
returns-clause-owner c = owner_of_lem

pub returns-clause-now : goal.returns-clause-now
returns-clause-now c = now_lem

pub returns-clause-eager : goal.returns-clause-eager
returns-clause-eager c = eager_run_lem

pub returns-clause-some : goal.returns-clause-some
returns-clause-some c = some_lem

pub returns-clause-begins : goal.returns-clause-begins
returns-clause-begins c = begins_lem

pub returns-clause-sure : goal.returns-clause-sure
returns-clause-sure c = sure_lem
