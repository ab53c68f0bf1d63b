use Rattle.std.proofs.Common.{rules}
use Rattle.std.specs.Option.{option_copied}
use Rattle.bully_member.proofs.OutlookLemmas.{affects}
use Rattle.bully_member.proofs.member.Member.affected_by.Goals as goal
use Rattle.bully_member.specs.Member.{replica_of}

pub returns-in-Some : goal.returns-in-Some
returns-in-Some c = λ leases is i.
    affects c.args.self.now.terms.is_cooperative (replica_of c.args.self.now) leases (option_copied c.args.coming) c.in-Some.table.now c.losers.result i
    (search (rules)) (search (rules)) (c.losers.ensures i)
