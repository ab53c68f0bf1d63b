use Rattle.bully.proofs.PipeLemmas.{annotated-lawful, played-lawful, run-lawful}
use Rattle.bully.proofs.pipes.checked_as_lawful.Goals as goal

pub returns-clause-played : goal.returns-clause-played
returns-clause-played c = played-lawful

pub returns-clause-run : goal.returns-clause-run
returns-clause-run c = run-lawful

pub returns-clause-annotated : goal.returns-clause-annotated
returns-clause-annotated c = annotated-lawful
