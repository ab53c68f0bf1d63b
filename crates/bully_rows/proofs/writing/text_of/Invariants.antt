use Rattle.std.proofs.Common.{◌≡◌, ◌++◌, take}
use Rattle.std.specs.String.{string_bytes}
use Rattle.bully_rows.specs.TraceText.{line_of, header_fields, rows_text}
use Rattle.bully_rows.proofs.writing.text_of.Given as goal

abbrev pub invariant-loop-row : goal.invariant-loop-row
invariant-loop-row l = string_bytes l.text ≡ line_of (header_fields l.trace.version l.trace.setup) ++ rows_text (take l.row-index l.trace.rows)
