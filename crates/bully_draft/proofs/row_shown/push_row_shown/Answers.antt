use Rattle.std.proofs.Common.{arith}
use Rattle.csv.specs.Records.{fields_of}
use Rattle.bully_draft.proofs.RowLemmas.{field-fits, field-over, fields-all, no-fields, row-printed}
use Rattle.bully_draft.proofs.row_shown.push_row_shown.Goals as goal

pub loop-place-init : goal.loop-place-init
loop-place-init c = no-fields c.args.text.now (fields_of c.args.fields.now)

pub loop-place-preserved : goal.loop-place-preserved
loop-place-preserved c =
    field-fits (fields_of c.args.fields.now) c.loop-place.place c.loop-place.room c.in-Some.left c.field_at.result.now c.loop-place.invariant (omega (arith, c.loop-place-test.true, c.len-place-end.ensures)) c.field_at.ensures c.push_field.ensures.shown c.in-Some.ensures.room

pub returns-in_default-clause-shown : goal.returns-in_default-clause-shown
returns-in_default-clause-shown c =
    field-over (fields_of c.args.fields.now) c.loop-place.place c.loop-place.room c.field_at.result.now c.loop-place.invariant (omega (arith, c.loop-place-test.true, c.len-place-end.ensures)) c.field_at.ensures c.push_field.ensures.shown c.in_default.ensures.room c.push_str.ensures

pub returns-in_default-clause-printed : goal.returns-in_default-clause-printed
returns-in_default-clause-printed c = row-printed (fields_of c.args.fields.now)

pub returns-clause-shown : goal.returns-clause-shown
returns-clause-shown c = fields-all (fields_of c.args.fields.now) c.loop-place.place c.loop-place.room c.loop-place.invariant (omega (arith, c.loop-place-test.false, c.loop-place.auto.place-end, c.len-place-end.ensures))

pub returns-clause-printed : goal.returns-clause-printed
returns-clause-printed c = row-printed (fields_of c.args.fields.now)
