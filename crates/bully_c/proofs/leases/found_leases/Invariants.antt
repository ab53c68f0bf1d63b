use Rattle.std.proofs.Common.{◌≡◌, ◌++◌, drop}
use Rattle.bully_c.proofs.leases.found_leases.Given as goal
use Rattle.bully_c.specs.Leases.{leases_given}

-- those so far are found, and the others keep what is left
abbrev pub invariant-loop-lease : goal.invariant-loop-lease
invariant-loop-lease l = leases_given l.told l.kept ≡ l.found.items ++ leases_given (drop l.lease-index l.told) l.left
