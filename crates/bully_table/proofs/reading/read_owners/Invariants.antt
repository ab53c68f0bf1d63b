use Rattle.std.proofs.Common.{◌≡◌, ◌++◌, false, length, map}
use Rattle.std.specs.List.{list_any}
use Rattle.bully_table.specs.TableText.{pieces_of, names_nobody, is_no_number, owner_of}
use Rattle.bully_table.proofs.reading.read_owners.Given as goal

abbrev pub invariant-loop-piece : goal.invariant-loop-piece
invariant-loop-piece l = record {
  owners : list_any (names_nobody l.fn.setup) l.pieces ≡ false;
  numbers : list_any is_no_number l.pieces ≡ false;
  read : l.owners.items ++ map owner_of l.pieces ≡ map owner_of (pieces_of l.text);
}

abbrev pub decreases-loop-piece : goal.decreases-loop-piece
decreases-loop-piece l = length l.pieces
