use Rattle.bully_picture.specs.Told.{names_text}
use Rattle.bully_picture.specs.Written.{Writes}
use Rattle.bully_picture.proofs.columns.push_names.Given as goal

abbrev pub invariant-loop-before : goal.invariant-loop-before
invariant-loop-before l = Writes l.initial.lines l.lines (names_text l.form l.before)
