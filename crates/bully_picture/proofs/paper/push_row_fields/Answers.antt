use Rattle.std.specs.List.{join_with_byte}
use Rattle.bully_rows.specs.TraceText.{row_fields}
use Rattle.std.proofs.Common.{string_bytes}
use Rattle.bully_picture.proofs.ShownLemmas.{line-cut}
use Rattle.bully_picture.proofs.paper.push_row_fields.Goals as goal

pub returns : goal.returns
returns c =
    line-cut (string_bytes c.push_row.new.text) (string_bytes c.pop.new.self) (string_bytes c.args.text.now) (join_with_byte 44 (row_fields c.args.row.now)) c.push_row.new.text.bytes.len
    c.push_row.new.text.bytes.ok.0 c.in_ok-push_row.ensures c.pop.ensures.ascii_bytes
