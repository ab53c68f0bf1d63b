use Rattle.csv.specs.Records.{fields_of}
use Rattle.bully_explain.proofs.SheetLemmas.{form_row}
use Rattle.bully_explain.proofs.form_text.push_faulty_row.Goals as goal

pub returns : goal.returns
returns c = form_row c.args.fault c.args.line (fields_of c.args.fields.now) c.push_row_place.ensures c.push_row_shown.ensures.shown c.push_between.ensures
