use Rattle.std.proofs.Common.{rules}
use Rattle.bully_account.specs.declared.TheConstants.{BYTES_KEPT}
use Rattle.bully_account.proofs.TailLemmas.{first-kept}
use Rattle.bully_account.proofs.tail.TailReader.keep.Goals as goal

pub returns-clause-last : goal.returns-clause-last
returns-clause-last g c = first-kept BYTES_KEPT c.min-kept.result c.args.given.now c.copy_from_slice.new.self _ (search rules) (search rules)
