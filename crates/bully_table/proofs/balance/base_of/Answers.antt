use Rattle.std.proofs.Common.{sym}
use Rattle.bully_table.proofs.PartLemmas.{base-is}
use Rattle.bully_table.proofs.balance.base_of.Goals as goal

pub returns-clause-base : goal.returns-clause-base
returns-clause-base c = λ members weigh. rw (c.from.ensures, c.partitions.ensures.partitions, c.from-2.ensures, c.weight.ensures.weight, weigh) (sym (base-is c.args.setup.now members c.args.node))
