use Rattle.std.proofs.Common.{replicate}
use Rattle.bully_picture.specs.Written.{Writes}
use Rattle.bully_picture.proofs.columns.fill.Given as goal

abbrev pub invariant-loop : goal.invariant-loop
invariant-loop l = Writes l.initial.lines l.lines (replicate l.counter 32)
