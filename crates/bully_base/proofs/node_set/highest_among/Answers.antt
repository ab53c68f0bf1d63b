use Rattle.std.proofs.Common.{◌∙◌, ◌-◌, arith, sym, ap}
use Rattle.bully_base.specs.NodeSet.{highest_of}
use Rattle.bully_base.proofs.RowLemmas.{AreWords-from, highest-step, empty-step}
use Rattle.bully_base.proofs.UsedLemmas.{used-last, zeros-behind}
use Rattle.bully_base.proofs.node_set.highest_among.Goals as goal

pub returns-then-used-eq0 : goal.returns-then-used-eq0
returns-then-used-eq0 c =
    sym (ap highest_of (empty-step c.args.words.now (AreWords-from c.args.words.now c.type_inv.words) (λ p. zeros-behind c.args.words.now p (omega (arith, c.count_used-used.ensures.used, c.if-used-eq0.true)))))

pub highest_bit-requires : goal.highest_bit-requires
highest_bit-requires c = used-last c.args.words.now (c.count_used-used.result - 1) (omega (arith, c.count_used-used.ensures.used, c.if-used-eq0.false))

pub returns : goal.returns
returns c =
    c.node_at.ensures ∙
    sym (highest-step c.args.words.now (c.count_used-used.result - 1) c.highest_bit.result c.requires (AreWords-from c.args.words.now c.type_inv.words)
    (omega (arith, c.count_used-used.ensures.within, c.if-used-eq0.false)) c.highest_bit.ensures (λ p l. zeros-behind c.args.words.now p (omega (arith, l, c.count_used-used.ensures.used))))
