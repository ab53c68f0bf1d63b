use Rattle.std.proofs.Common.{◌≡◌, length}
use Rattle.std.specs.Option.{option_copied}
use Rattle.bully_member.proofs.ActivityLemmas.{changed_first}
use Rattle.bully_member.proofs.activities.begin_all.Given as goal
use Rattle.bully_member.specs.Activities.{begin_at}

-- the first ones are changed
abbrev pub invariant-loop-index : goal.invariant-loop-index
invariant-loop-index l = record {
  changed : l.works ≡ changed_first (begin_at (option_copied l.table) l.node) l.index 0 l.initial.works;
  end : l.index-end ≡ length l.initial.works;
}
