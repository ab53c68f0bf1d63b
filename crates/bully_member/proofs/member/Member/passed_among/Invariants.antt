use Rattle.std.proofs.Common.{◌≡◌, [], take, fold}
use Rattle.bully_member.proofs.member.Member.passed_among.Given as goal
use Rattle.bully_member.specs.Told.{with_passed}

-- the set has those so far that were passed over
abbrev pub invariant-loop-lease : goal.invariant-loop-lease
invariant-loop-lease l = l.passed ≡ fold (with_passed l.self) [] (take l.lease-index l.leases)
