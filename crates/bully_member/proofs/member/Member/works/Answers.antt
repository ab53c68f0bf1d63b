use Rattle.std.proofs.Common.{ap, arith, length}
use Rattle.bully_member.proofs.member.Member.works.Goals as goal

pub busy-requires : goal.busy-requires
busy-requires c = omega (arith, c.self.invariant.0.few, ap length c.deref.ensures.value)
