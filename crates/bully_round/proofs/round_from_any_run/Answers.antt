use Rattle.bully_round.proofs.AcceptedLemmas.{accepts_lem}
use Rattle.bully_round.proofs.CalledLemmas.{called_lem}
use Rattle.bully_round.proofs.FromLemmas.{does_lem, grown_lem, in_run_lem, part_lem, same_lem, view_lem}
use Rattle.bully_round.proofs.FromRound.{longer_lem, only_lem, own_from_lem, round_lem, stable_from_lem, turns_from_lem, view_of_ready}
use Rattle.bully_round.proofs.SomeReady.{some_ready_lem}
use Rattle.bully_round.proofs.round_from_any_run.Goals as goal
use Rattle.bully_round.specs.Progress.{IsCalm}

pub returns-clause-part : goal.returns-clause-part
returns-clause-part c = part_lem

pub returns-clause-calm : goal.returns-clause-calm
returns-clause-calm c = λ happenings R p m now. in_run_lem happenings R p m (IsCalm m now)

pub returns-clause-turns : goal.returns-clause-turns
returns-clause-turns c = does_lem

pub returns-clause-alike : goal.returns-clause-alike
returns-clause-alike c = same_lem

pub returns-clause-view : goal.returns-clause-view
returns-clause-view c = view_lem

pub returns-clause-ready : goal.returns-clause-ready
returns-clause-ready c = view_of_ready

pub returns-clause-appended : goal.returns-clause-appended
returns-clause-appended c = grown_lem

pub returns-clause-round : goal.returns-clause-round
returns-clause-round c = round_lem

pub returns-clause-bound : goal.returns-clause-bound
returns-clause-bound c = turns_from_lem

pub returns-clause-one : goal.returns-clause-one
returns-clause-one c = longer_lem

pub returns-clause-stable : goal.returns-clause-stable
returns-clause-stable c = stable_from_lem

pub returns-clause-own : goal.returns-clause-own
returns-clause-own c = own_from_lem

pub returns-clause-called : goal.returns-clause-called
returns-clause-called c = called_lem

pub returns-clause-only : goal.returns-clause-only
returns-clause-only c = only_lem

pub returns-clause-accepted : goal.returns-clause-accepted
returns-clause-accepted c = accepts_lem

pub returns-clause-some : goal.returns-clause-some
returns-clause-some c = some_ready_lem
