-- The header is written, and then the rows from the first world on.
use Rattle.std.proofs.Common.{◌≡◌, ◌∙◌, ap, rules}
use Rattle.bully_rows.specs.Trace.{Trace}
use Rattle.bully_annotate.proofs.SaysLemmas.{begins-lawful, trace-written}
use Rattle.bully_annotate.proofs.writing.write_annotated.Goals as goal

pub write_rows-requires : goal.write_rows-requires
write_rows-requires g c =
    let (count, w, lawful) = c.requires.lawful in
    let same : c.as_slice.result.now ≡ c.args.trace.now.rows = c.as_slice.ensures.rows ∙ ap (λ (t : Trace). t.rows) c.trace.view_is in
    (2, count, w, rw same (begins-lawful c.args.trace.now c.args.annotator.now count w c.requires.setup c.requires.first c.requires.none lawful))

pub returns : goal.returns
returns g c =
    trace-written c.args.trace.now c.args.annotator.now (g.W.Write.contents c.args.writer.now) (g.W.Write.contents c.write_header.new.writer) (g.W.Write.contents c.write_rows.new.writer)
    c.write_rows.result c.requires.setup c.requires.first (search rules) (search rules)
