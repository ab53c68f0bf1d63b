use Rattle.std.proofs.Common.{◌-◌, arith, sym, ◌∙◌}
use Rattle.bully_table.proofs.TakerLemmas.{left-on, left-take, left-none}
use Rattle.bully_table.proofs.takers.Takers.next.Goals as goal

pub returns-in_err-self-inside : goal.returns-in_err-self-inside
returns-in_err-self-inside c =
    let inside = c.loop-self.self-inside in
    let end = left-none inside.quotas.now inside.counts.now inside.node inside.room (omega arith) (grind (arith, c.number.ensures, c.in_err-self-inside.ensures)) in
    rw c.from_residual.ensures (sym c.self.view_is ∙ (sym c.loop-self.invariant ∙ end), end)

pub loop-self-preserved : goal.loop-self-preserved
loop-self-preserved c =
    let inside = c.loop-self.self-inside in
    left-on inside.quotas.now inside.counts.now inside.node inside.room c.in_ok-self-inside.field-0 c.room_of-self-inside.result (omega arith) (grind arith) (grind arith) c.room_of-self-inside.ensures ∙ c.loop-self.invariant

pub returns : goal.returns
returns c =
    let inside = c.loop-self.self-inside in
    sym c.self.view_is ∙ (sym c.loop-self.invariant ∙ left-take inside.quotas.now inside.counts.now inside.node inside.room (inside.room - 1) (omega arith))
