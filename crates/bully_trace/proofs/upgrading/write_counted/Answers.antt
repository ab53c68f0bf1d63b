-- An answer by name: an edit that breaks it is refused at once.
use Rattle.std.proofs.Common.{rules}
use Rattle.bully_trace.proofs.upgrading.write_counted.Goals as goal

pub returns-clause-written : goal.returns-clause-written
returns-clause-written g c = search rules
