use Rattle.std.proofs.Common.{◌≡◌, [], length}
use Rattle.bully_table.specs.TableText.{pieces_of}
use Rattle.bully_rows.specs.Rows.{set_from}
use Rattle.bully_rows.proofs.saying.read_set.Given as goal

abbrev pub invariant-loop-piece : goal.invariant-loop-piece
invariant-loop-piece l = set_from l.version [] (pieces_of l.text) ≡ set_from l.version l.set l.pieces

abbrev pub decreases-loop-piece : goal.decreases-loop-piece
decreases-loop-piece l = length l.pieces
