use Rattle.std.proofs.Common.{◌∙◌, sym, ap, rules}
use Rattle.csv.specs.Records.{fields_of}
use Rattle.bully_rows.specs.Headers.{header_of}
use Rattle.bully_rows.proofs.FieldLemmas.{fields-four, fields-six}
use Rattle.bully_rows.proofs.HeaderLemmas.{no-header}
use Rattle.bully_rows.proofs.header.read_header.Goals as goal

pub returns-in-4 : goal.returns-in-4
returns-in-4 c =
    let four = fields-four (fields_of c.args.row.now) c.field-word.result.now c.field-version.result.now c.field.result.now c.field-in-4.result.now
    (search rules) c.field-word.ensures c.field-version.ensures c.field.ensures c.field-in-4.ensures in
    c.first_header.ensures ∙ sym (ap header_of four)

pub returns-in-6 : goal.returns-in-6
returns-in-6 c =
    let six = fields-six (fields_of c.args.row.now) c.field-word-in-6.result.now c.field-version-in-6.result.now c.field-nodes.result.now c.field-partitions.result.now c.field-in-6.result.now c.field-in-6-2.result.now
    (search rules) c.field-word-in-6.ensures c.field-version-in-6.ensures c.field-nodes.ensures c.field-partitions.ensures c.field-in-6.ensures c.field-in-6-2.ensures in
    c.later_header.ensures ∙ sym (ap header_of six)

pub returns-in_default : goal.returns-in_default
returns-in_default c = no-header (fields_of c.args.row.now) (search rules) (search rules)
