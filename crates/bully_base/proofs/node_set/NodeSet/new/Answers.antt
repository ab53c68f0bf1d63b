use Rattle.std.proofs.Common.{ℕ}
use Rattle.std.proofs.lemmas.List.{length-replicate}
use Rattle.bully_base.specs.declared.node_set.TheConstants.{WORDS}
use Rattle.bully_base.proofs.RowLemmas.{AreWords-zeros, members_of-zeros}
use Rattle.bully_base.proofs.UsedLemmas.{used-zeros}
use Rattle.bully_base.proofs.node_set.NodeSet.new.Goals as goal

pub invariant_of-result : goal.invariant_of-result
invariant_of-result c = (length-replicate {A = ℕ} WORDS 0, AreWords-zeros WORDS, used-zeros WORDS)

pub returns : goal.returns
returns c = members_of-zeros WORDS
