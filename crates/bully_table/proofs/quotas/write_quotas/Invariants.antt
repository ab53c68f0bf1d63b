use Rattle.std.proofs.Common.{◌≡◌, ℕ, ◌-◌, List, slice_index_or}
use Rattle.bully_base.specs.Setup.{IsNodeNumber}
use Rattle.bully_table.specs.Balance.{count_of}
use Rattle.bully_table.specs.Takers.{base_share}
use Rattle.bully_table.proofs.BaseSteps.{AreStill}
use Rattle.bully_table.proofs.QuotaSteps.{SharedBelow}
use Rattle.bully_table.proofs.quotas.write_quotas.Given as goal

abbrev pub invariant-loop-place : goal.invariant-loop-place
invariant-loop-place l = record {
  still : AreStill (base_share l.setup l.members) l.place l.quotas;
  below : (before : List ℕ) → ((m : ℕ) → IsNodeNumber m → slice_index_or l.counts (m - 1) 0 ≡ count_of m before) → SharedBelow l.setup before l.members l.first_rest l.later_rest l.place l.quotas;
}
