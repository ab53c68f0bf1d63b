use Rattle.std.proofs.Common.{◌-◌, arith}
use Rattle.bully_base.specs.declared.TheConstants.{NODES_MAX}
use Rattle.bully_table.specs.Takers.{spare}
use Rattle.bully_table.proofs.TakerLemmas.{takers-next}
use Rattle.bully_table.proofs.takers.Takers.of.Goals as goal

pub returns : goal.returns
returns c = grind (arith, c.new.ensures, c.room_of-room.ensures, takers-next (spare c.args.quotas.now c.args.counts.now) NODES_MAX (NODES_MAX - 1) 1 (omega arith))
