use Rattle.std.proofs.Common.{◌≡◌, take}
use Rattle.bully_member.proofs.member.snapshots.note_arrivals.Given as goal
use Rattle.bully_member.specs.Told.{arrivals_then}

-- what the leases so far have noted
abbrev pub invariant-loop-lease : goal.invariant-loop-lease
invariant-loop-lease l = l.arrivals ≡ arrivals_then l.ttl l.now l.passed l.initial.arrivals (take l.lease-index l.leases)
