use Rattle.bully_base.proofs.UsedLemmas.{same-used}
use Rattle.bully_base.proofs.node_set.NodeSetPartialEq.eq.Goals as goal

pub returns : goal.returns
returns c =
    same-used c.args.self.now c.args.other.now c.used_words.result.now c.used_words-2.result.now c.eq.result c.used_words.ensures.words c.used_words-2.ensures.words c.used_words.ensures.members c.used_words-2.ensures.members c.eq.ensures
