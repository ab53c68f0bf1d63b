use Rattle.std.proofs.Common.{◌≡◌, [], take, fold}
use Rattle.bully_member.proofs.member.Member.admitted_among.Given as goal
use Rattle.bully_member.specs.Member.{with_admitted}

-- the set has those so far that are admitted
abbrev pub invariant-loop-lease : goal.invariant-loop-lease
invariant-loop-lease l = l.group ≡ fold (with_admitted l.self l.now l.is_under_way) [] (take l.lease-index l.leases)
