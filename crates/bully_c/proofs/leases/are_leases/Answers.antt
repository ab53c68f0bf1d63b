use Rattle.std.proofs.Common.{arith}
use Rattle.std.proofs.lemmas.Bool.Decides.{nat_tests}
use Rattle.std.proofs.lemmas.Grind.{common_steps}
use Rattle.std.proofs.lemmas.List.Elements.{All-more}
use Rattle.bully_c.specs.Leases.{IsLease}
use Rattle.bully_c.proofs.LeaseLemmas.{nobody-there}
use Rattle.bully_c.proofs.leases.are_leases.Goals as goal

pub loop-lease-preserved : goal.loop-lease-preserved
loop-lease-preserved c =
    All-more (IsLease c.args.last) c.args.told.now c.loop-lease.lease-index nobody-there c.loop-lease-test.true c.loop-lease.invariant
    (grind (arith, nat_tests, common_steps, c.if-lease-eq0.false), grind (arith, nat_tests, common_steps, c.if-lease-last.false))
