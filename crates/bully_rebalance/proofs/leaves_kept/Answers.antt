use Rattle.bully_rebalance.proofs.LeaveLemmas.{may_append_lem, passes_lem, planned_lem, rolls_lem, whole_lem}
use Rattle.bully_rebalance.proofs.SameLemmas.{stays_lem}
use Rattle.bully_rebalance.proofs.leaves_kept.Goals as goal

pub returns-clause-planned : goal.returns-clause-planned
returns-clause-planned c = planned_lem

pub returns-clause-append : goal.returns-clause-append
returns-clause-append c = may_append_lem

pub returns-clause-passes : goal.returns-clause-passes
returns-clause-passes c = passes_lem

pub returns-clause-stays : goal.returns-clause-stays
returns-clause-stays c = stays_lem

pub returns-clause-whole : goal.returns-clause-whole
returns-clause-whole c = whole_lem

pub returns-clause-rolls : goal.returns-clause-rolls
returns-clause-rolls c = rolls_lem
