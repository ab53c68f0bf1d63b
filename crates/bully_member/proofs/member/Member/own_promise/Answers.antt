use Rattle.std.proofs.Common.{ap, arith, length}
use Rattle.bully_member.proofs.member.Member.own_promise.Goals as goal

pub keeps_exactly-requires : goal.keeps_exactly-requires
keeps_exactly-requires c = omega (arith, c.self.invariant.0.few, ap length c.deref.ensures.value)
