use Rattle.std.proofs.Common.{◌≡◌, ◌<◌, ℕ, true, length}
use Rattle.bully_member.proofs.member.Member.works_on_all.Given as goal
use Rattle.bully_member.specs.Activities.{works_at}
use Rattle.bully_work.specs.Working.{GivesTo}

-- it works on what the table gives its node of the first partitions
abbrev pub invariant-loop-partition : goal.invariant-loop-partition
invariant-loop-partition l = record {
  first : (k : ℕ) → k < l.partition → GivesTo l.table k l.self.terms.node → works_at l.self.works k ≡ true;
  end : l.partition-end ≡ length l.table;
}
