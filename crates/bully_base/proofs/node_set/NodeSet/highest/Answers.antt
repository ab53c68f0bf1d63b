use Rattle.std.proofs.Common.{◌∙◌, ◌≡◌, ◌+◌, ap}
use Rattle.bully_base.specs.NodeSet.{highest_of, number_of, IsFallingBelow}
use Rattle.bully_base.specs.declared.TheConstants.{NODES_MAX}
use Rattle.bully_base.proofs.NodeSetLemmas.{highest-largest}
use Rattle.bully_base.proofs.WordLemmas.{members-falling}
use Rattle.bully_base.proofs.node_set.NodeSet.highest.Goals as goal

pub returns : goal.returns
returns c =
    let same : c.highest_among.result ≡ highest_of c.args.self.now = c.highest_among.ensures ∙ ap highest_of c.used_words.ensures.members in
    let falling : IsFallingBelow (NODES_MAX + 1) c.args.self.now = rw (← c.used_words.ensures.members) (members-falling (number_of c.used_words.result.now) NODES_MAX) in
    record {
      highest = same;
      falling = falling;
      largest = rw same (highest-largest c.args.self.now (NODES_MAX + 1) falling);
    }
