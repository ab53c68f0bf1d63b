use Rattle.std.proofs.Common.{◌≡◌, bytes_eq, drop, length}
use Rattle.bully_member.proofs.activities.keeps_exactly.Given as goal
use Rattle.bully_member.specs.Activities.{busy, busy_from}

-- the rest is to be compared with the rest
abbrev pub invariant-loop-index : goal.invariant-loop-index
invariant-loop-index l = record {
  same : bytes_eq (busy l.works) l.kept ≡ bytes_eq (busy_from l.index (drop l.index l.works)) l.rest;
  end : l.index-end ≡ length l.works;
}
