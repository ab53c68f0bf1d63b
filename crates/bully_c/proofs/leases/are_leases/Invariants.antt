use Rattle.std.proofs.Common.{take}
use Rattle.bully_c.specs.Leases.{AreLeases}
use Rattle.bully_c.proofs.leases.are_leases.Given as goal

abbrev pub invariant-loop-lease : goal.invariant-loop-lease
invariant-loop-lease l = AreLeases l.last (take l.lease-index l.told)
