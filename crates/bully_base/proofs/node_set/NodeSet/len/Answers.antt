use Rattle.std.proofs.Common.{◌∙◌, ap, length}
use Rattle.bully_base.specs.NodeSet.{number_of}
use Rattle.bully_base.specs.declared.TheConstants.{NODES_MAX}
use Rattle.bully_base.proofs.WordLemmas.{members-falling}
use Rattle.bully_base.proofs.node_set.NodeSet.len.Goals as goal

pub returns-clause-len : goal.returns-clause-len
returns-clause-len c = c.count_among.ensures ∙ ap length c.used_words.ensures.members

pub returns-clause-falling : goal.returns-clause-falling
returns-clause-falling c = rw (← c.used_words.ensures.members) (members-falling (number_of c.used_words.result.now) NODES_MAX)
