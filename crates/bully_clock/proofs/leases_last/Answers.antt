use Rattle.bully_clock.proofs.SomeTimed.{ends_lem, some_lem, tight_lem}
use Rattle.bully_clock.proofs.TimeLemmas.{one_clock_lem, rates_lem, spare_lem}
use Rattle.bully_clock.proofs.TimedLemmas.{apart_lem, counts_lem, lasts_lem, runs_lem, stays_lem, works_now_lem}
use Rattle.bully_clock.proofs.leases_last.Goals as goal

pub returns-clause-runs : goal.returns-clause-runs
returns-clause-runs c = runs_lem

pub returns-clause-counts : goal.returns-clause-counts
returns-clause-counts c = counts_lem

pub returns-clause-stays : goal.returns-clause-stays
returns-clause-stays c = stays_lem

pub returns-clause-lasts : goal.returns-clause-lasts
returns-clause-lasts c = lasts_lem

pub returns-clause-works : goal.returns-clause-works
returns-clause-works c = works_now_lem

pub returns-clause-apart : goal.returns-clause-apart
returns-clause-apart c = apart_lem

pub returns-clause-rates : goal.returns-clause-rates
returns-clause-rates c = rates_lem

pub returns-clause-spare : goal.returns-clause-spare
returns-clause-spare c = spare_lem

pub returns-clause-one_clock : goal.returns-clause-one_clock
returns-clause-one_clock c = one_clock_lem

pub returns-clause-some : goal.returns-clause-some
returns-clause-some c = some_lem

pub returns-clause-ends : goal.returns-clause-ends
returns-clause-ends c = ends_lem

pub returns-clause-tight : goal.returns-clause-tight
returns-clause-tight c = tight_lem
