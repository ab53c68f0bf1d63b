use Rattle.std.proofs.Common.{◌∙◌, ℕ, List, ap, refl}
use Rattle.bully_base.specs.NodeSet.{highest_of, below_node}
use Rattle.bully_base.proofs.RowLemmas.{below-part, below-rest}
use Rattle.bully_base.proofs.node_set.NodeSet.below.Goals as goal

pub returns-then-part-ne0 : goal.returns-then-part-ne0
returns-then-part-ne0 c =
    c.node_at.ensures ∙
    (below-part c.self.inside.words c.args.node c.place_of-place.result c.bit_of.result _ c.highest_bit.result c.self.invariant.1 c.bit_of.ensures.within c.place_of-place.ensures.place c.bit_of.ensures.bit refl c.highest_bit.ensures ∙
    ap (λ (ms : List ℕ). highest_of (below_node c.args.node ms)) c.self.view_is)

pub returns-else-part-ne0 : goal.returns-else-part-ne0
returns-else-part-ne0 c =
    c.highest_among.ensures ∙
    (below-rest c.self.inside.words c.args.node c.place_of-place.result c.bit_of.result _ c.self.invariant.1 c.bit_of.ensures.within c.place_of-place.ensures.place c.bit_of.ensures.bit refl c.if-part-ne0.false ∙
    ap (λ (ms : List ℕ). highest_of (below_node c.args.node ms)) c.self.view_is)
