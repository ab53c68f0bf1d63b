use Rattle.std.proofs.Common.{◌≡◌, ◌+◌, ◌<◌, length, min, ◌||◌}
use Rattle.std.specs.List.{list_any}
use Rattle.bully_table.specs.TableText.{pieces_of, names_nobody, is_no_number}
use Rattle.bully_table.proofs.reading.look_through.Given as goal

abbrev pub invariant-loop-piece : goal.invariant-loop-piece
invariant-loop-piece l = record {
  fits : l.found.count < 65536;
  count : min (l.found.count + length l.pieces) 65535 ≡ min (length (pieces_of l.text)) 65535;
  names_nobody : (l.found.names_nobody || list_any (names_nobody l.setup) l.pieces) ≡ list_any (names_nobody l.setup) (pieces_of l.text);
  has_no_number : (l.found.has_no_number || list_any is_no_number l.pieces) ≡ list_any is_no_number (pieces_of l.text);
}

abbrev pub decreases-loop-piece : goal.decreases-loop-piece
decreases-loop-piece l = length l.pieces
