use Rattle.csv.specs.Records.{fields_of}
use Rattle.bully_rows.proofs.FieldLemmas.{field-there}
use Rattle.bully_rows.proofs.row.field.Goals as goal

pub unwrap-requires : goal.unwrap-requires
unwrap-requires c = field-there (fields_of c.args.row.now) c.args.place c.get.result c.requires c.get.ensures.value
