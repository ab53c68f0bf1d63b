use Rattle.std.proofs.Common.{◌∙◌, sym, arith}
use Rattle.bully_account.specs.Remembered.{with_note}
use Rattle.bully_account.proofs.EachLemmas.{note-other, note-own, past-stays, set-each}
use Rattle.bully_account.proofs.memory.Memories.note.Goals as goal

pub returns-then-place-len-clause-noted : goal.returns-then-place-len-clause-noted
returns-then-place-len-clause-noted c =
    set-each 1 c.from-place.result c.args.node (with_note c.args.node c.args.note.now) c.args.self.now.nodes.items c.index_mut.result.now c.note.new.self (note-other c.args.node c.args.note.now)
    (grind (arith, c.from-place.ensures, c.number.ensures.number, c.number.ensures.within)) c.index_mut.ensures.value
    (c.note.ensures ∙ sym (note-own c.args.node c.args.note.now c.index_mut.result.now))

pub returns-else-place-len-clause-noted : goal.returns-else-place-len-clause-noted
returns-else-place-len-clause-noted c =
    sym (past-stays 1 c.args.node (with_note c.args.node c.args.note.now) c.args.self.now.nodes.items (note-other c.args.node c.args.note.now)
    (grind (arith, c.from-place.ensures, c.number.ensures.number, c.number.ensures.within, c.if-place-len.false, c.len.ensures)))
