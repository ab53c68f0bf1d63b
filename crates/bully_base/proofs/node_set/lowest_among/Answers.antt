use Rattle.std.proofs.Common.{◌∙◌, sym, ap}
use Rattle.bully_base.specs.NodeSet.{lowest_of}
use Rattle.bully_base.proofs.RowLemmas.{AreWords-from, lowest-step, empty-step, row-zeros}
use Rattle.bully_base.proofs.node_set.lowest_among.Goals as goal

pub returns-then-word-ne0 : goal.returns-then-word-ne0
returns-then-word-ne0 c =
    c.node_at.ensures ∙
    sym (lowest-step c.args.words.now c.loop-place.place c.lowest_bit.result c.requires (AreWords-from c.args.words.now c.type_inv.words) c.loop-place-test.true c.lowest_bit.ensures c.loop-place.invariant)

pub returns : goal.returns
returns c = sym (ap lowest_of (empty-step c.args.words.now (AreWords-from c.args.words.now c.type_inv.words) (row-zeros c.args.words.now c.loop-place.place c.loop-place-test.false c.loop-place.invariant)))
