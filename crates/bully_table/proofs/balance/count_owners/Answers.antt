use Rattle.std.proofs.Common.{◌-◌, refl, arith}
use Rattle.std.proofs.lemmas.List.{get_or-replicate}
use Rattle.bully_base.specs.declared.TheConstants.{NODES_MAX}
use Rattle.bully_table.proofs.balance.count_owners.Goals as goal

pub loop-owner-init : goal.loop-owner-init
loop-owner-init c = record {
  places = rw c.requires.none refl;
  counted = λ node within. rw c.requires.none (get_or-replicate NODES_MAX (node - 1) 0 0 (omega arith));
}
