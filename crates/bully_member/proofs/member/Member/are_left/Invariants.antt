use Rattle.std.proofs.Common.{◌≡◌, ◌<◌, ℕ, true, length}
use Rattle.std.specs.Option.{option_copied}
use Rattle.bully_member.proofs.member.Member.are_left.Given as goal
use Rattle.bully_member.specs.Activities.{works_at}
use Rattle.bully_rebalance.specs.Leaving.{is_left}

-- the table leaves its node what it works on of the first partitions
abbrev pub invariant-loop-partition : goal.invariant-loop-partition
invariant-loop-partition l = record {
  first : (k : ℕ) → k < l.partition → works_at l.self.works k ≡ true → is_left (option_copied l.table) l.self.terms.node k ≡ true;
  end : l.partition-end ≡ length l.self.works;
}
