use Rattle.std.proofs.Common.{rules, refl}
use Rattle.std.proofs.lemmas.Option.{slice_get_read}
use Rattle.bully_rows.specs.TraceText.{line_of, header_fields}
use Rattle.bully_rows.proofs.TextLemmas.{row-written}
use Rattle.bully_rows.proofs.writing.text_of.Goals as goal

pub loop-row-preserved : goal.loop-row-preserved
loop-row-preserved c =
    row-written (line_of (header_fields c.args.trace.now.version c.args.trace.now.setup)) c.args.trace.now.rows c.loop-row.row-index c.row-item.result _ _
    c.loop-row.invariant (slice_get_read c.args.trace.now.rows _ c.loop-row.row-index c.row-item.result refl (search rules) (search rules)) (search rules)
