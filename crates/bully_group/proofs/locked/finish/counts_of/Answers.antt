use Rattle.std.proofs.Common.{◌+◌, refl, arith}
use Rattle.std.proofs.lemmas.List.{get_or-replicate}
use Rattle.bully_base.specs.declared.TheConstants.{NODES_MAX}
use Rattle.bully_group.proofs.locked.finish.counts_of.Goals as goal

pub loop-entry-init : goal.loop-entry-init
loop-entry-init c = (refl, λ actor within. get_or-replicate (NODES_MAX + 1) actor 0 0 (omega arith))
