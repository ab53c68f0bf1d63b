use Rattle.std.proofs.Common.{◌++◌, ◌∷◌, [], ◌∙◌, ap}
use Rattle.bully_rows.proofs.RowForms.{rows-fit}
use Rattle.bully_rows.proofs.reading.TraceRowsTraceSinkUnit.feed_read_row.Goals as goal

pub returns : goal.returns
returns g c = λ start header rows meant number taken. (
  taken.0,
  c.in_ok-push.ensures.items ∙ ap (λ before. before ++ c.args.row ∷ []) taken.1,
  taken.2,
  rows-fit header.version header.setup c.args._rows.now.fields rows c.args.row meant taken.3,
)
