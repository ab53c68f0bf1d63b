-- What is left is next behind what the writer below took.
use Rattle.std.proofs.Common.{length}
use Rattle.std.specs.Io.KnownBytes.{Keeps, append_known}
use Rattle.bully_paint.proofs.pieces.put.Given as goal

abbrev pub invariant-loop-below : goal.invariant-loop-below
invariant-loop-below g l =
    Keeps (append_known (g.W.Write.contents l.initial.below) l.bytes) (append_known (g.W.Write.contents l.below) l.rest)

abbrev pub decreases-loop-below : goal.decreases-loop-below
decreases-loop-below g l = length l.rest
