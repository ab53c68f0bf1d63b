use Rattle.bully_rebalance.proofs.Rebalanced.{becomes_stable_lem}
use Rattle.bully_rebalance.proofs.RebalancedLemmas.{append_lem, stable_lem}
use Rattle.bully_rebalance.proofs.SizeLemmas.{rebalancing_few}
use Rattle.bully_rebalance.proofs.becomes_stable.Goals as goal

pub returns-clause-rebalances : goal.returns-clause-rebalances
returns-clause-rebalances c = becomes_stable_lem

pub returns-clause-few : goal.returns-clause-few
returns-clause-few c = rebalancing_few

pub returns-clause-stable : goal.returns-clause-stable
returns-clause-stable c = stable_lem

pub returns-clause-append : goal.returns-clause-append
returns-clause-append c = append_lem
