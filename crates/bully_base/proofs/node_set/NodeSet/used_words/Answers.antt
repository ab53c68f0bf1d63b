use Rattle.std.proofs.Common.{arith}
use Rattle.bully_base.proofs.UsedLemmas.{row-members, row-used, used-fits}
use Rattle.bully_base.proofs.node_set.NodeSet.used_words.Goals as goal

pub shared_ref_as_front-result : goal.shared_ref_as_front-result
shared_ref_as_front-result c = omega (arith, used-fits c.self.inside.words c.self.inside.used c.self.invariant, c.self.invariant.0)

pub returns-clause-words : goal.returns-clause-words
returns-clause-words c = row-used c.self.inside.words c.args.self.now c.self.inside.used c.self.invariant c.self.view_is

pub returns-clause-members : goal.returns-clause-members
returns-clause-members c = row-members c.self.inside.words c.args.self.now c.self.inside.used c.self.invariant c.self.view_is
