use Rattle.std.proofs.Common.{◌∙◌, ℕ, List, arith, ap, take_all}
use Rattle.std.specs.Int.Count.{ones}
use Rattle.bully_base.specs.NodeSet.{number_of, AreWords}
use Rattle.bully_base.proofs.RowLemmas.{AreWords-from, ones-none, ones-more, ones-word, count-step}
use Rattle.bully_base.proofs.node_set.count_among.Goals as goal

pub loop-word-init : goal.loop-word-init
loop-word-init c = (omega arith, ones-none)

pub loop-word-preserved : goal.loop-word-preserved
loop-word-preserved c =
    let words : AreWords c.args.words.now = AreWords-from c.args.words.now c.type_inv.words in
    let most = ones-word c.args.words.now c.loop-word.word-index words in
    let more = ones-more c.args.words.now c.loop-word.word-index words c.loop-word-test.true in
    (omega (arith, c.loop-word.invariant.0, most), omega (arith, c.loop-word.invariant.1, more))

pub returns : goal.returns
returns c =
    c.loop-word.invariant.1 ∙
    (ap (λ (ws : List ℕ). ones (number_of ws)) (take_all c.loop-word.word-index c.args.words.now c.loop-word-test.false) ∙ count-step c.args.words.now c.requires (AreWords-from c.args.words.now c.type_inv.words))
