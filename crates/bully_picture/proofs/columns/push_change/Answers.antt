use Rattle.std.proofs.Common.{◌≡◌, ◌∙◌, ◌-◌, length, replicate, subst, sym, true, false}
use Rattle.std.specs.Prelude.{max}
use Rattle.bully_picture.specs.declared.columns.TheConstants.{CHANGE}
use Rattle.bully_picture.specs.Told.{change_words, tells_change}
use Rattle.bully_picture.specs.Written.{Writes}
use Rattle.bully_picture.proofs.ColumnLemmas.{column-filled}
use Rattle.bully_picture.proofs.WrittenLemmas.{writes-nothing}
use Rattle.bully_picture.proofs.columns.push_change.Goals as goal

pub returns-then-tells_change : goal.returns-then-tells_change
returns-then-tells_change c =
    let tells : tells_change c.args.form ≡ true = sym c.tells_change.ensures ∙ c.if-tells_change.true in
    rw tells
    (column-filled CHANGE (change_words c.args.nodes c.args.change.now) c.args.lines.now c.push_after.new.lines c.fill.new.lines c.push_after.ensures
    (subst (λ n. Writes c.push_after.new.lines c.fill.new.lines (replicate (max 1 (CHANGE - (length c.push_after.new.lines.text - n))) 32)) c.len-start.ensures c.fill.ensures))

pub returns-else-tells_change : goal.returns-else-tells_change
returns-else-tells_change c =
    let none : tells_change c.args.form ≡ false = sym c.tells_change.ensures ∙ c.if-tells_change.false in
    rw none (writes-nothing c.args.lines.now)
