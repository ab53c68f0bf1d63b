use Rattle.std.proofs.Common.{◌≡◌, ◌+◌, ◌*◌, ◌≤◌}
use Rattle.bully_base.specs.declared.TheConstants.{WEIGHT_MAX}
use Rattle.bully_base.specs.NodeSet.{below_node}
use Rattle.bully_base.specs.Setup.{weight_of}
use Rattle.bully_table.proofs.TotalLemmas.{total}
use Rattle.bully_table.proofs.balance.total_weight.Given as goal

abbrev pub invariant-loop-place : goal.invariant-loop-place
invariant-loop-place l = record {
  few : l.total ≤ WEIGHT_MAX * l.place;
  sum : l.total ≡ total (weight_of l.setup) (below_node (l.place + 1) l.members);
}
