use Rattle.std.proofs.Common.{take}
use Rattle.bully_picture.specs.Told.{cells_text}
use Rattle.bully_picture.specs.Written.{Writes}
use Rattle.bully_picture.proofs.columns.push_cells.Given as goal

abbrev pub invariant-loop-snapshot : goal.invariant-loop-snapshot
invariant-loop-snapshot l = Writes l.initial.lines l.lines (cells_text l.form (take l.snapshot-index l.now))
