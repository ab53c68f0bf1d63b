use Rattle.std.proofs.Common.{◌-◌, length, replicate, subst}
use Rattle.std.specs.Prelude.{max}
use Rattle.bully_picture.specs.Words.{followed_text}
use Rattle.bully_picture.specs.Written.{Writes}
use Rattle.bully_picture.proofs.ColumnLemmas.{column-filled}
use Rattle.bully_picture.proofs.columns.push_stand.Goals as goal

pub returns : goal.returns
returns c =
    column-filled c.args.column (followed_text c.args.word.now c.args.between.now c.args.snapshot.now.coordinator) c.args.lines.now c.push_followed.new.paper c.fill.new.lines c.push_followed.ensures
    (subst (λ n. Writes c.push_followed.new.paper c.fill.new.lines (replicate (max 1 (c.args.column - (length c.push_followed.new.paper.text - n))) 32)) c.len-start.ensures c.fill.ensures)
