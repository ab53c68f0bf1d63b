use Rattle.std.proofs.Common.{◌≡◌, ◌++◌, drop, length, map, take}
use Rattle.bully_c.proofs.member_shown.put_activities.Given as goal
use Rattle.bully_c.specs.MemberNumbers.{activity_number}

-- the first of them are written
abbrev pub invariant-loop-partition : goal.invariant-loop-partition
invariant-loop-partition l = record {
  room : l.room ≡ take l.partition (map activity_number l.activities) ++ drop l.partition l.initial.room;
  end : l.partition-end ≡ length l.activities;
}
