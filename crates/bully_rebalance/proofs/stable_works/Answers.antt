use Rattle.bully_rebalance.proofs.StableWorks.{stable_owned_lem, stable_works_lem}
use Rattle.bully_rebalance.proofs.stable_works.Goals as goal

pub returns-clause-served : goal.returns-clause-served
returns-clause-served c = stable_works_lem

pub returns-clause-owned : goal.returns-clause-owned
returns-clause-owned c = stable_owned_lem
