use Rattle.std.proofs.Common.{◌≡◌, take}
use Rattle.bully_member.proofs.member.outlook.live_of.Given as goal
use Rattle.bully_member.specs.Member.{live_of}

-- the set has the nodes so far
abbrev pub invariant-loop-lease : goal.invariant-loop-lease
invariant-loop-lease l = l.live ≡ live_of (take l.lease-index l.leases)
