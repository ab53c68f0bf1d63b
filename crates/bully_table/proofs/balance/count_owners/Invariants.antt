use Rattle.std.proofs.Common.{◌≡◌, ◌-◌, ℕ, length, slice_index_or, take}
use Rattle.bully_base.specs.declared.TheConstants.{NODES_MAX}
use Rattle.bully_base.specs.Setup.{IsNodeNumber}
use Rattle.bully_table.specs.Balance.{count_of}
use Rattle.bully_table.proofs.balance.count_owners.Given as goal

abbrev pub invariant-loop-owner : goal.invariant-loop-owner
invariant-loop-owner l = record {
  places : length l.counts ≡ NODES_MAX;
  counted : (node : ℕ) → IsNodeNumber node → slice_index_or l.counts (node - 1) 0 ≡ count_of node (take l.owner-index l.owners);
}
