use Rattle.std.proofs.Common.{◌≡◌, length}
use Rattle.bully_member.proofs.ActivityLemmas.{busy_first}
use Rattle.bully_member.proofs.activities.busy.Given as goal

-- those of the first ones
abbrev pub invariant-loop-index : goal.invariant-loop-index
invariant-loop-index l = record {
  found : l.partitions.items ≡ busy_first l.index 0 l.works;
  end : l.index-end ≡ length l.works;
}
