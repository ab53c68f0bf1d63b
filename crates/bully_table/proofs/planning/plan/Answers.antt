-- Each goal is named, so that a wrong body is refused at once.
use Rattle.std.proofs.Common.{rules}
use Rattle.bully_table.proofs.planning.plan.Goals as goal

pub returns-clause-planned : goal.returns-clause-planned
returns-clause-planned c = search rules

pub returns-clause-fewest : goal.returns-clause-fewest
returns-clause-fewest c = search rules

pub returns-clause-bound : goal.returns-clause-bound
returns-clause-bound c = search rules
