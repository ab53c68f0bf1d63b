use Rattle.bully_member.proofs.AskLemmas.{append_lem, asks_lem, begin_lem, eager_lem, first_lem, promise_lem, rolls_lem}
use Rattle.bully_member.proofs.asks_by_the_rules.Goals as goal

pub returns-clause-begin : goal.returns-clause-begin
returns-clause-begin c = begin_lem

pub returns-clause-promise : goal.returns-clause-promise
returns-clause-promise c = promise_lem

pub returns-clause-eager : goal.returns-clause-eager
returns-clause-eager c = eager_lem

pub returns-clause-asks : goal.returns-clause-asks
returns-clause-asks c = asks_lem

pub returns-clause-acquire : goal.returns-clause-acquire
returns-clause-acquire c = first_lem

pub returns-clause-append : goal.returns-clause-append
returns-clause-append c = append_lem

pub returns-clause-rolls : goal.returns-clause-rolls
returns-clause-rolls c = rolls_lem
