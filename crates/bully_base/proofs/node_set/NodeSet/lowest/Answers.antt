use Rattle.std.proofs.Common.{◌∙◌, ◌+◌, ap}
use Rattle.bully_base.specs.NodeSet.{lowest_of, number_of, IsFallingBelow}
use Rattle.bully_base.specs.declared.TheConstants.{NODES_MAX}
use Rattle.bully_base.proofs.NodeSetLemmas.{lowest-least}
use Rattle.bully_base.proofs.WordLemmas.{members-falling}
use Rattle.bully_base.proofs.node_set.NodeSet.lowest.Goals as goal

pub returns-clause-lowest : goal.returns-clause-lowest
returns-clause-lowest c = c.lowest_among.ensures ∙ ap lowest_of c.used_words.ensures.members

pub returns-clause-least : goal.returns-clause-least
returns-clause-least c =
    let falling : IsFallingBelow (NODES_MAX + 1) c.args.self.now = rw (← c.used_words.ensures.members) (members-falling (number_of c.used_words.result.now) NODES_MAX) in
    rw (returns-clause-lowest c) (lowest-least c.args.self.now (NODES_MAX + 1) falling)
