use Rattle.std.proofs.Common.{subst}
use Rattle.bully_member.proofs.member.Member.may_go_on.Goals as goal
use Rattle.bully_member.specs.Told.{SeesIfFound}

pub returns-clause-ahead : goal.returns-clause-ahead
returns-clause-ahead c = subst SeesIfFound c.self.view_is c.self.invariant.1
