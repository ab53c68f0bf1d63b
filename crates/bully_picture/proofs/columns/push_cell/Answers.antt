use Rattle.std.proofs.Common.{codes, subst}
use Rattle.bully_picture.specs.declared.columns.Form.{Form}
use Rattle.bully_picture.specs.Told.{column_of, filled}
use Rattle.bully_picture.specs.Words.{followed_text}
use Rattle.bully_picture.specs.Written.{Writes}
use Rattle.bully_picture.proofs.WrittenLemmas.{writes-nothing}
use Rattle.bully_picture.proofs.columns.push_cell.Goals as goal

pub returns-in-Words : goal.returns-in-Words
returns-in-Words c =
    let old = c.args.lines.now in
    let new = c.push_stand.new.lines in
    let node = c.args.snapshot.now in
    rw c.in-Words.is
    (subst (λ word. Writes old new (filled (column_of Form.Words) (followed_text word (codes " ") node.coordinator))) c.word.ensures
    (subst (λ form. Writes old new (filled (column_of form) (followed_text c.word.result.now (codes " ") node.coordinator))) c.in-Words.is
    (subst (λ n. Writes old new (filled n (followed_text c.word.result.now (codes " ") node.coordinator))) c.column.ensures c.push_stand.ensures)))

pub returns-in-Short : goal.returns-in-Short
returns-in-Short c =
    let old = c.args.lines.now in
    let new = c.push_stand-in-Short.new.lines in
    let node = c.args.snapshot.now in
    rw c.in-Short.is
    (subst (λ word. Writes old new (filled (column_of Form.Short) (followed_text word (codes "") node.coordinator))) c.letter.ensures
    (subst (λ form. Writes old new (filled (column_of form) (followed_text c.letter.result.now (codes "") node.coordinator))) c.in-Short.is
    (subst (λ n. Writes old new (filled n (followed_text c.letter.result.now (codes "") node.coordinator))) c.column-in-Short.ensures c.push_stand-in-Short.ensures)))

pub returns-in-Letters : goal.returns-in-Letters
returns-in-Letters c = rw c.in-Letters.is (subst (λ word. Writes c.args.lines.now c.push.new.self word) c.letter-in-Letters.ensures c.push.ensures)

pub returns-in-Changes : goal.returns-in-Changes
returns-in-Changes c = rw c.in-Changes.is (writes-nothing c.args.lines.now)
