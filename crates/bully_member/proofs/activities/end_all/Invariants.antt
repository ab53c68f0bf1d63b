use Rattle.std.proofs.Common.{◌≡◌, length}
use Rattle.bully_member.proofs.ActivityLemmas.{changed_first}
use Rattle.bully_member.proofs.activities.end_all.Given as goal
use Rattle.bully_member.specs.Activities.{end_at}

-- the first ones are changed
abbrev pub invariant-loop-index : goal.invariant-loop-index
invariant-loop-index l = record {
  changed : l.works ≡ changed_first end_at l.index 0 l.initial.works;
  end : l.index-end ≡ length l.initial.works;
}
