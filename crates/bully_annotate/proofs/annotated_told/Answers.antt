use Rattle.bully_annotate.proofs.ToldLemmas.{annotated-events, annotated-told}
use Rattle.bully_annotate.proofs.annotated_told.Goals as goal

pub returns-clause-told : goal.returns-clause-told
returns-clause-told c = annotated-told

pub returns-clause-events : goal.returns-clause-events
returns-clause-events c = annotated-events
