use Rattle.bully_explain.proofs.SheetLemmas.{form_no_row}
use Rattle.bully_explain.proofs.form_text.push_no_row.Goals as goal

pub returns : goal.returns
returns c = form_no_row c.args.fault c.push_between.ensures c.push_between-2.ensures
