use Rattle.std.proofs.Common.{◌≡◌, true, string_bytes}
use Rattle.std.proofs.lemmas.Result.{IfErr-at_err, IfOk-at_ok}
use Rattle.std.specs.Prelude.{IfErr}
use Rattle.bully_account.specs.TraceReport.{IsUntold}
use Rattle.bully_rows.specs.RecordsLeft.{EndsReading}
use Rattle.bully_rows.specs.Rows.{is_of_form}
use Rattle.bully_explain.specs.declared.explaining.Sheet.{Sheet}
use Rattle.bully_explain.specs.SheetText.{IsSheetOf}
use Rattle.bully_text.specs.Bounded.{bounded_left}
use Rattle.bully.proofs.ExplainLemmas.{explained-answer, form-answer, untold-answer}
use Rattle.bully.proofs.explaining.explain_trace.Goals as goal

pub returns-in-Ok-told-clause-answer : goal.returns-in-Ok-told-clause-answer
returns-in-Ok-told-clause-answer g c =
    let told = IfOk-at_ok (λ (s : Sheet). IsSheetOf (bounded_left g.R.Read.remaining c.args.input) s.nodes.items (string_bytes s.text) s.told) c.in-Ok.is c.explain.ensures.told in
    explained-answer g.E.Write.contents (bounded_left g.R.Read.remaining c.args.input) c.args.is_json c.in-Ok-told.verdict c.in-Ok.sheet.nodes.items c.as_str.result.now _ _ _ _ c.answer_sheet.result
    (rw c.as_str.ensures.value (rw c.in-Ok-told.is at told)) c.answer_sheet.ensures.answer

pub returns-in-Ok-clause-answer : goal.returns-in-Ok-clause-answer
returns-in-Ok-clause-answer g c =
    let told = IfOk-at_ok (λ (s : Sheet). IsSheetOf (bounded_left g.R.Read.remaining c.args.input) s.nodes.items (string_bytes s.text) s.told) c.in-Ok.is c.explain.ensures.told in
    let form = IfOk-at_ok (λ (s : Sheet). IfErr s.told (λ fault. is_of_form fault.cause ≡ true)) c.in-Ok.is c.explain.ensures.form in
    form-answer (bounded_left g.R.Read.remaining c.args.input) c.args.is_json c.in-Err-told.fault c.as_str-in-Err-told.result.now _ _ _ c.answer_form.result
    (rw c.as_str-in-Err-told.ensures.value (rw c.in-Err-told.is at told)) (rw c.in-Err-told.is at form) c.answer_form.ensures

pub returns-clause-answer : goal.returns-clause-answer
returns-clause-answer g c =
    untold-answer c.in-Err.fault.cause (bounded_left g.R.Read.remaining c.args.input) c.args.is_json _ _ _ c.answer_fault.result
    (IfErr-at_err IsUntold c.in-Err.is c.explain.ensures.untold) (IfErr-at_err (EndsReading (bounded_left g.R.Read.remaining c.args.input)) c.in-Err.is c.explain.ensures.fault).read
    c.answer_fault.ensures.other
