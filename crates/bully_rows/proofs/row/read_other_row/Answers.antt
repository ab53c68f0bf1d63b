use Rattle.std.proofs.Common.{◌≡◌, sym, subst, rules, List, ℕ, IfOk}
use Rattle.csv.specs.Records.{fields_of}
use Rattle.bully_rows.specs.Rows.{row_of}
use Rattle.bully_rows.proofs.FieldLemmas.{fields-five, fields-four, fields-three}
use Rattle.bully_rows.proofs.row.read_other_row.Goals as goal

pub returns-in-3-clause-other : goal.returns-in-3-clause-other
returns-in-3-clause-other c = λ _.
    let three = fields-three (fields_of c.args.fields.now) c.field-word.result.now c.field.result.now c.field-in-3.result.now
    (search rules) c.field-word.ensures c.field.ensures c.field-in-3.ensures in
    subst (λ (fs : List (List ℕ)). IfOk c.plan_row.result (λ row. row ≡ row_of c.args.version c.args.setup.now fs)) (sym three) c.plan_row.ensures

pub returns-in-4-clause-other : goal.returns-in-4-clause-other
returns-in-4-clause-other c = λ _.
    let four = fields-four (fields_of c.args.fields.now) c.field-word-in-4.result.now c.field-node.result.now c.field-in-4.result.now c.field-in-4-2.result.now
    (search rules) c.field-word-in-4.ensures c.field-node.ensures c.field-in-4.ensures c.field-in-4-2.ensures in
    subst (λ (fs : List (List ℕ)). c.four_fields.result ≡ row_of c.args.version c.args.setup.now fs) (sym four) (c.four_fields.ensures c.args.setup.now)

pub returns-in-5-clause-other : goal.returns-in-5-clause-other
returns-in-5-clause-other c = λ _.
    let five = fields-five (fields_of c.args.fields.now) c.field-word-in-5.result.now c.field-node-in-5.result.now c.field-kind.result.now c.field-in-5.result.now c.field-in-5-2.result.now
    (search rules) c.field-word-in-5.ensures c.field-node-in-5.ensures c.field-kind.ensures c.field-in-5.ensures c.field-in-5-2.ensures in
    subst (λ (fs : List (List ℕ)). c.answered_row.result ≡ row_of c.args.version c.args.setup.now fs) (sym five) c.answered_row.ensures
