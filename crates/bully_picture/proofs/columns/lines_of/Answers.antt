use Rattle.std.proofs.Common.{◌≡◌, length, string_bytes}
use Rattle.bully_film.specs.Lane.{row_before}
use Rattle.bully_picture.specs.Title.{Begins}
use Rattle.bully_picture.specs.Told.{columns_text, told_from}
use Rattle.bully_trace.specs.VerdictText.{verdict_head}
use Rattle.bully_picture.proofs.WrittenLemmas.{begins-written, extends-then, extends-written, in-text, writes-then, written-whole}
use Rattle.bully_picture.proofs.columns.lines_of.Goals as goal

pub returns-clause-verdict : goal.returns-clause-verdict
returns-clause-verdict c =
    in-text string_bytes c.push_lines.new.lines (λ text. Begins text (verdict_head c.args.finished.now.verdict)) c.into_text.result c.into_text.ensures.whole c.into_text.ensures.text
    (begins-written c.new-lines.ensures c.push_verdict.ensures (extends-then (extends-written c.push_shown_line.ensures) c.in_ok-push_lines.ensures.extends))

pub returns-clause-whole : goal.returns-clause-whole
returns-clause-whole c = λ window trace is.
    let finished = c.args.finished.now in
    in-text string_bytes c.push_lines.new.lines (λ text. text ≡ columns_text finished.verdict finished.setup.nodes (row_before finished.scenes.items) (length finished.scenes.items)
    (told_from trace.setup is.before is.shown))
    c.into_text.result c.into_text.ensures.whole c.into_text.ensures.text
    (written-whole c.new-lines.ensures (writes-then (writes-then c.push_verdict.ensures c.push_shown_line.ensures) (c.in_ok-push_lines.ensures.whole window trace is)))
