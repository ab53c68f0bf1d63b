use Rattle.std.proofs.Common.{◌↔◌, drop}
use Rattle.bully_c.proofs.leases.are_kept.Given as goal
use Rattle.bully_c.specs.Leases.{AreKept}

-- the leases so far keep what was taken
abbrev pub invariant-loop-lease : goal.invariant-loop-lease
invariant-loop-lease l = AreKept l.told l.kept ↔ AreKept (drop l.lease-index l.told) l.left
