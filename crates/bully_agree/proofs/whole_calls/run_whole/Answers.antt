-- Each goal is named, so that a wrong body is refused at once.
use Rattle.std.proofs.Common.{rules}
use Rattle.bully_agree.proofs.whole_calls.run_whole.Goals as goal

pub returns-in_err-run-clause-fault : goal.returns-in_err-run-clause-fault
returns-in_err-run-clause-fault c = search rules

pub returns-clause-whole : goal.returns-clause-whole
returns-clause-whole c = search rules
