use Rattle.bully_trace.proofs.OneVerdictLemmas.{judges-lawful, one-verdict}
use Rattle.bully_trace.proofs.one_verdict.Goals as goal

pub returns-clause-one : goal.returns-clause-one
returns-clause-one c = one-verdict

pub returns-clause-lawful : goal.returns-clause-lawful
returns-clause-lawful c = judges-lawful
