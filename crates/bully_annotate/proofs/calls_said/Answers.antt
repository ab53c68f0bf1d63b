use Rattle.bully_annotate.proofs.FullLemmas.{annotated-in-full, says-each-call}
use Rattle.bully_annotate.proofs.calls_said.Goals as goal

pub returns-clause-each : goal.returns-clause-each
returns-clause-each c = says-each-call

pub returns-clause-in_full : goal.returns-clause-in_full
returns-clause-in_full c = annotated-in-full
