use Rattle.csv.specs.Records.{fields_of}
use Rattle.bully_draft.proofs.RowLemmas.{field-none, field-some}
use Rattle.bully_draft.proofs.form.field_at.Goals as goal

pub returns-in-Some : goal.returns-in-Some
returns-in-Some c = field-some (fields_of c.args.fields.now) c.args.place _ c.in-Some.ensures.value

pub returns-in-None : goal.returns-in-None
returns-in-None c = field-none (fields_of c.args.fields.now) c.args.place c.in-None.ensures.value
