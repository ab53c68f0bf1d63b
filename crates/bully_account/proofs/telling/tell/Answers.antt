-- All rows were judged.
use Rattle.std.proofs.Common.{◌≡◌, true, []}
use Rattle.bully_account.specs.declared.telling.TraceReport.{TraceReport}
use Rattle.bully_rows.specs.Rows.{is_of_form}
use Rattle.bully_account.proofs.ToldLemmas.{no-fault, short-ends, short-untold}
use Rattle.bully_account.proofs.telling.tell.Goals as goal

pub returns-in-Some-clause-told : goal.returns-in-Some-clause-told
returns-in-Some-clause-told g c = λ known unread. c.verdict_told.ensures.told known (rw c.in-Some.is at (c.in-Ok.ensures.taken known unread))

pub returns-in-Some-clause-form : goal.returns-in-Some-clause-form
returns-in-Some-clause-form g c = no-fault (λ (t : TraceReport). t.verdict) (λ t fault. is_of_form fault.cause ≡ true) c.verdict_told.result c.verdict_told.ensures.verdict

pub returns-in-Some-clause-sheets : goal.returns-in-Some-clause-sheets
returns-in-Some-clause-sheets g c = no-fault (λ (t : TraceReport). t.verdict) (λ t fault. t.nodes.items ≡ []) c.verdict_told.result c.verdict_told.ensures.verdict

pub returns-in-Some-clause-fault : goal.returns-in-Some-clause-fault
returns-in-Some-clause-fault g c = λ known unread. short-ends known c.verdict_told.result c.verdict_told.ensures.fault

pub returns-in-Some-clause-untold : goal.returns-in-Some-clause-untold
returns-in-Some-clause-untold g c = short-untold c.verdict_told.result c.verdict_told.ensures.fault
