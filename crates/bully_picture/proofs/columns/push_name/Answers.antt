use Rattle.std.proofs.Common.{subst}
use Rattle.std.specs.Fmt.{decimal}
use Rattle.bully_picture.specs.Told.{column_of, filled}
use Rattle.bully_picture.specs.Written.{Writes}
use Rattle.bully_picture.proofs.WrittenLemmas.{writes-nothing}
use Rattle.bully_picture.proofs.columns.push_name.Goals as goal

pub returns-in-Words : goal.returns-in-Words
returns-in-Words c =
    rw c.in-Words.is (subst (λ form. Writes c.args.lines.now c.push_number.new.lines (filled (column_of form) (decimal c.args.number))) c.in-Words.is
    (subst (λ n. Writes c.args.lines.now c.push_number.new.lines (filled n (decimal c.args.number))) c.column.ensures c.push_number.ensures))

pub returns-in-Short : goal.returns-in-Short
returns-in-Short c =
    rw c.in-Short.is (subst (λ form. Writes c.args.lines.now c.push_number-in-Short.new.lines (filled (column_of form) (decimal c.args.number))) c.in-Short.is
    (subst (λ n. Writes c.args.lines.now c.push_number-in-Short.new.lines (filled n (decimal c.args.number))) c.column-in-Short.ensures c.push_number-in-Short.ensures))

pub returns-in-Letters : goal.returns-in-Letters
returns-in-Letters c = rw c.in-Letters.is c.push_mark.ensures

pub returns-in-Changes : goal.returns-in-Changes
returns-in-Changes c = rw c.in-Changes.is (writes-nothing c.args.lines.now)
