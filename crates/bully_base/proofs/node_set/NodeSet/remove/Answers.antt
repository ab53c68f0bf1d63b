use Rattle.std.proofs.Common.{◌∙◌, ap, arith}
use Rattle.std.specs.Int.{bit_not, w64}
use Rattle.bully_base.specs.NodeSet.{without_node}
use Rattle.bully_base.proofs.NodeSetLemmas.{without_node-members}
use Rattle.bully_base.proofs.RowLemmas.{remove-step, remove-words}
use Rattle.bully_base.proofs.UsedLemmas.{remove-row, used-fits}
use Rattle.bully_base.proofs.node_set.NodeSet.remove.Goals as goal

pub shared_ref_as_front-count_used : goal.shared_ref_as_front-count_used
shared_ref_as_front-count_used c =
    let words = remove-words c.self.inside.words c.place_of-place.result (bit_not w64 c.bit_of.result) (c.self.invariant.0, c.self.invariant.1) in
    omega (arith, used-fits c.self.inside.words c.self.inside.used c.self.invariant, words.0)

pub invariant_of-self : goal.invariant_of-self
invariant_of-self c = remove-row c.self.inside.words c.self.inside.used c.place_of-place.result _ c.count_used-self-inside.result c.self.invariant c.place_of-place.ensures.within c.count_used-self-inside.ensures.used

pub returns-clause-after : goal.returns-clause-after
returns-clause-after c =
    remove-step c.self.inside.words c.args.node c.place_of-place.result c.bit_of.result (c.self.invariant.0, c.self.invariant.1) c.bit_of.ensures.within c.place_of-place.ensures.place c.bit_of.ensures.bit ∙
    ap (without_node c.args.node) c.self.view_is

pub returns-clause-members : goal.returns-clause-members
returns-clause-members c = λ j. rw (returns-clause-after c) (without_node-members c.args.self.now c.args.node j)
