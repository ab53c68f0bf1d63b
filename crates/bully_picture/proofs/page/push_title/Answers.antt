use Rattle.std.proofs.Common.{◌≡◌, ◌∙◌, ap, length, subst, rules}
use Rattle.bully_film.specs.Lane.{row_before}
use Rattle.bully_picture.specs.Title.{title_text}
use Rattle.bully_picture.specs.Written.{Writes}
use Rattle.bully_picture.proofs.WrittenLemmas.{writes-then}
use Rattle.bully_picture.proofs.page.push_title.Goals as goal

pub returns : goal.returns
returns c =
    let finished = c.args.finished.now in
    let written : Writes c.args.picture.now c.push.new.self (title_text finished.verdict finished.setup.nodes finished.setup.partitions c.row_before.result c.len.result) =
    writes-then (writes-then (writes-then c.push_verdict.ensures c.push_size.ensures) c.push_shown.ensures) c.push.ensures in
    let before : c.row_before.result ≡ row_before finished.scenes.items = c.row_before.ensures ∙ ap row_before c.as_slice.ensures.value in
    let count : c.len.result ≡ length finished.scenes.items = search rules in
    subst (λ n. Writes c.args.picture.now c.push.new.self (title_text finished.verdict finished.setup.nodes finished.setup.partitions (row_before finished.scenes.items) n)) count
    (subst (λ row. Writes c.args.picture.now c.push.new.self (title_text finished.verdict finished.setup.nodes finished.setup.partitions row c.len.result)) before written)
