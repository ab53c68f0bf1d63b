use Rattle.bully_rebalance.proofs.ActLemmas.{acquire_lem, append_lem, begin_lem, begun_lem, followed_lem, further_lem, learned_lem, more_lem, promise_lem, promised_lem, stopped_lem}
use Rattle.bully_rebalance.proofs.acts_by_the_rules.Goals as goal

pub returns-clause-begin : goal.returns-clause-begin
returns-clause-begin c = begin_lem

pub returns-clause-promise : goal.returns-clause-promise
returns-clause-promise c = promise_lem

pub returns-clause-acquire : goal.returns-clause-acquire
returns-clause-acquire c = acquire_lem

pub returns-clause-append : goal.returns-clause-append
returns-clause-append c = append_lem

pub returns-clause-begun : goal.returns-clause-begun
returns-clause-begun c = begun_lem

pub returns-clause-promised : goal.returns-clause-promised
returns-clause-promised c = promised_lem

pub returns-clause-stopped : goal.returns-clause-stopped
returns-clause-stopped c = stopped_lem

pub returns-clause-learned : goal.returns-clause-learned
returns-clause-learned c = learned_lem

pub returns-clause-followed : goal.returns-clause-followed
returns-clause-followed c = followed_lem

pub returns-clause-further : goal.returns-clause-further
returns-clause-further c = further_lem

pub returns-clause-more : goal.returns-clause-more
returns-clause-more c = more_lem
