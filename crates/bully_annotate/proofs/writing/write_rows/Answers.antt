use Rattle.std.proofs.Common.{refl, rules}
use Rattle.std.proofs.lemmas.Option.{slice_get_read}
use Rattle.bully_annotate.proofs.SaysLemmas.{goes-on-at, goes-on-first}
use Rattle.bully_annotate.proofs.writing.write_rows.Goals as goal

pub loop-row-init : goal.loop-row-init
loop-row-init g c = record {
  goes = goes-on-first c.args.annotator.now c.args.rows.now (g.W.Write.contents c.args.writer.now) c.requires;
  few = search rules;
}

pub loop-row-preserved : goal.loop-row-preserved
loop-row-preserved g c = record {
  goes = goes-on-at c.args.annotator.now c.loop-row.annotator c.write_row.new.annotator c.args.rows.now c.loop-row.row-index c.row-item.result
      (g.W.Write.contents c.args.writer.now) (g.W.Write.contents c.loop-row.writer) (g.W.Write.contents c.write_row.new.writer)
      c.loop-row.count c.in_ok-count.field-0 c.loop-row.invariant.goes (slice_get_read c.args.rows.now _ c.loop-row.row-index c.row-item.result refl (search rules) (search rules)) c.in_ok-count.ensures.said;
  few = search rules;
}
