use Rattle.std.proofs.Common.{◌∙◌, ◌-◌, ◌++◌, [], ap, length, replicate, subst}
use Rattle.std.specs.Fmt.{decimal}
use Rattle.std.specs.Prelude.{max}
use Rattle.std.proofs.lemmas.List.{append-nil}
use Rattle.bully_picture.specs.Written.{Writes}
use Rattle.bully_picture.proofs.ColumnLemmas.{column-filled}
use Rattle.bully_picture.proofs.WrittenLemmas.{writes-as}
use Rattle.bully_picture.proofs.columns.push_number.Goals as goal

pub returns : goal.returns
returns c =
    column-filled c.args.column (decimal c.args.number) c.args.lines.now c.push_number.new.self c.fill.new.lines (writes-as (ap (λ n. decimal n ++ []) c.from.ensures ∙ append-nil (decimal c.args.number)) c.push_number.ensures)
    (subst (λ n. Writes c.push_number.new.self c.fill.new.lines (replicate (max 1 (c.args.column - (length c.push_number.new.self.text - n))) 32)) c.len-start.ensures c.fill.ensures)
