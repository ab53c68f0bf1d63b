use Rattle.bully_round.proofs.AgainLemmas.{again_lem, view_lem}
use Rattle.bully_round.proofs.GroupLemmas.{changes_lem, ready_lem, somebody_lem}
use Rattle.bully_round.proofs.PatienceLemmas.{alone_lem}
use Rattle.bully_round.proofs.RoundLemmas.{ends_stable_lem, one_works_lem, some_works_lem, stable_for, turns_lem, waits_lem, works_in_round, works_lem}
use Rattle.bully_round.proofs.SomeRound.{some_rest_lem}
use Rattle.bully_round.proofs.SomeView.{some_alert_lem, some_look_lem, some_view_lem}
use Rattle.bully_round.proofs.SomeWhole.{some_whole_lem}
use Rattle.bully_round.proofs.round_becomes_stable.Goals as goal

pub returns-clause-ready : goal.returns-clause-ready
returns-clause-ready c = ready_lem

pub returns-clause-changes : goal.returns-clause-changes
returns-clause-changes c = changes_lem

pub returns-clause-somebody : goal.returns-clause-somebody
returns-clause-somebody c = somebody_lem

pub returns-clause-alone : goal.returns-clause-alone
returns-clause-alone c = alone_lem

pub returns-clause-stable : goal.returns-clause-stable
returns-clause-stable c = stable_for

pub returns-clause-works : goal.returns-clause-works
returns-clause-works c = works_lem

pub returns-clause-some : goal.returns-clause-some
returns-clause-some c = some_view_lem

pub returns-clause-turns : goal.returns-clause-turns
returns-clause-turns c = turns_lem

pub returns-clause-ends : goal.returns-clause-ends
returns-clause-ends c = ends_stable_lem

pub returns-clause-own : goal.returns-clause-own
returns-clause-own c = works_in_round

pub returns-clause-one : goal.returns-clause-one
returns-clause-one c = one_works_lem

pub returns-clause-served : goal.returns-clause-served
returns-clause-served c = some_works_lem

pub returns-clause-after : goal.returns-clause-after
returns-clause-after c = some_rest_lem

pub returns-clause-waits : goal.returns-clause-waits
returns-clause-waits c = waits_lem

pub returns-clause-again : goal.returns-clause-again
returns-clause-again c = again_lem

pub returns-clause-view : goal.returns-clause-view
returns-clause-view c = view_lem

pub returns-clause-look : goal.returns-clause-look
returns-clause-look c = some_look_lem

pub returns-clause-alert : goal.returns-clause-alert
returns-clause-alert c = some_alert_lem

pub returns-clause-whole : goal.returns-clause-whole
returns-clause-whole c = some_whole_lem
