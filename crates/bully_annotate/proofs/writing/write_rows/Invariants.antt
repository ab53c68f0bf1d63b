use Rattle.std.proofs.Common.{◌≤◌, drop}
use Rattle.bully_rows.specs.declared.TheConstants.{ROWS_MAX}
use Rattle.bully_annotate.specs.Says.{GoesOn}
use Rattle.bully_annotate.proofs.writing.write_rows.Given as goal

abbrev pub invariant-loop-row : goal.invariant-loop-row
invariant-loop-row g l = record {
  goes : GoesOn l.fn.annotator l.annotator l.rows (drop l.row-index l.rows) (g.W.Write.contents l.fn.writer) (g.W.Write.contents l.writer) l.count;
  few : l.count ≤ ROWS_MAX;
}
