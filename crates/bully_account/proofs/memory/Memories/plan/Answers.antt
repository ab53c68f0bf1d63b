use Rattle.std.proofs.Common.{◌∙◌, sym, arith}
use Rattle.bully_account.specs.Remembered.{with_plan}
use Rattle.bully_account.proofs.EachLemmas.{past-stays, plan-other, plan-own, set-each}
use Rattle.bully_account.proofs.memory.Memories.plan.Goals as goal

pub returns-then-place-len-clause-planned : goal.returns-then-place-len-clause-planned
returns-then-place-len-clause-planned c =
    set-each 1 c.from-place.result c.args.node (with_plan c.args.node c.args.table.now) c.args.self.now.nodes.items c.index_mut.result.now c.plan.new.self (plan-other c.args.node c.args.table.now)
    (grind (arith, c.from-place.ensures, c.number.ensures.number, c.number.ensures.within)) c.index_mut.ensures.value
    (c.plan.ensures ∙ sym (plan-own c.args.node c.args.table.now c.index_mut.result.now))

pub returns-else-place-len-clause-planned : goal.returns-else-place-len-clause-planned
returns-else-place-len-clause-planned c =
    sym (past-stays 1 c.args.node (with_plan c.args.node c.args.table.now) c.args.self.now.nodes.items (plan-other c.args.node c.args.table.now)
    (grind (arith, c.from-place.ensures, c.number.ensures.number, c.number.ensures.within, c.if-place-len.false, c.len.ensures)))
