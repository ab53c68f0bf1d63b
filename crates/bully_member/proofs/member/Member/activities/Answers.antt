use Rattle.std.proofs.Common.{ap, arith, length}
use Rattle.bully_member.proofs.member.Member.activities.Goals as goal

pub returns-clause-within : goal.returns-clause-within
returns-clause-within c = omega (arith, c.self.invariant.0.few, ap length c.deref.ensures.value)
