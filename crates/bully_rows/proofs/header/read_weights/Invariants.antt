use Rattle.std.proofs.Common.{◌≡◌, ◌+◌, length, take}
use Rattle.bully_table.specs.TableText.{pieces_of}
use Rattle.bully_rows.specs.Headers.{weights_from}
use Rattle.bully_rows.proofs.HeaderLemmas.{joined}
use Rattle.bully_rows.proofs.header.read_weights.Given as goal

abbrev pub invariant-loop-weight : goal.invariant-loop-weight
invariant-loop-weight l = record {
  count : l.weight-index + length l.pieces ≡ length (pieces_of l.text);
  read : weights_from (pieces_of l.text) ≡ joined (take l.weight-index l.weights) (weights_from l.pieces);
}
