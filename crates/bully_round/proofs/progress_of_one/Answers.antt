use Rattle.bully_round.proofs.FreshLemmas.{fresh_lem}
use Rattle.bully_round.proofs.DueLemmas.{acts_lem, rests_lem}
use Rattle.bully_round.proofs.SomePassage.{some_turns_lem}
use Rattle.bully_round.proofs.OwnLemmas.{exactly_lem}
use Rattle.bully_round.proofs.PatienceLemmas.{patient_lem}
use Rattle.bully_round.proofs.TurnLemmas.{bounded_lem, falls_lem}
use Rattle.bully_round.proofs.progress_of_one.Goals as goal

pub returns-clause-acts : goal.returns-clause-acts
returns-clause-acts c = acts_lem

pub returns-clause-rests : goal.returns-clause-rests
returns-clause-rests c = rests_lem

pub returns-clause-falls : goal.returns-clause-falls
returns-clause-falls c = falls_lem

pub returns-clause-bounded : goal.returns-clause-bounded
returns-clause-bounded c = bounded_lem

pub returns-clause-exactly : goal.returns-clause-exactly
returns-clause-exactly c = exactly_lem

pub returns-clause-some : goal.returns-clause-some
returns-clause-some c = some_turns_lem

pub returns-clause-patient : goal.returns-clause-patient
returns-clause-patient c = patient_lem

pub returns-clause-fresh : goal.returns-clause-fresh
returns-clause-fresh c = fresh_lem
