use Rattle.bully_annotate.proofs.ShownLemmas.{shows-each-change, shows-no-more}
use Rattle.bully_annotate.proofs.changes_shown.Goals as goal

pub returns-clause-each : goal.returns-clause-each
returns-clause-each c = shows-each-change

pub returns-clause-no_more : goal.returns-clause-no_more
returns-clause-no_more c = shows-no-more
