use Rattle.csv.specs.Records.{fields_of}
use Rattle.bully_draft.proofs.RowLemmas.{HasShown}
use Rattle.bully_draft.proofs.row_shown.push_row_shown.Given as goal

abbrev pub invariant-loop-place : goal.invariant-loop-place
invariant-loop-place l = HasShown l.initial.text l.text (fields_of l.fields) l.place l.room
