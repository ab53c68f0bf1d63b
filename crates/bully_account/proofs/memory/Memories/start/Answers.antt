use Rattle.std.proofs.Common.{◌∙◌, sym, arith}
use Rattle.bully_account.specs.Remembered.{with_start}
use Rattle.bully_account.proofs.EachLemmas.{past-stays, set-each, start-other, start-own}
use Rattle.bully_account.proofs.memory.Memories.start.Goals as goal

pub returns-then-place-len-clause-started : goal.returns-then-place-len-clause-started
returns-then-place-len-clause-started c =
    set-each 1 c.from-place.result c.args.node (with_start c.args.node c.args.row) c.args.self.now.nodes.items c.index_mut.result.now c.start.new.self (start-other c.args.node c.args.row)
    (grind (arith, c.from-place.ensures, c.number.ensures.number, c.number.ensures.within)) c.index_mut.ensures.value
    (c.start.ensures ∙ sym (start-own c.args.node c.args.row c.index_mut.result.now))

pub returns-else-place-len-clause-started : goal.returns-else-place-len-clause-started
returns-else-place-len-clause-started c =
    sym (past-stays 1 c.args.node (with_start c.args.node c.args.row) c.args.self.now.nodes.items (start-other c.args.node c.args.row)
    (grind (arith, c.from-place.ensures, c.number.ensures.number, c.number.ensures.within, c.if-place-len.false, c.len.ensures)))
