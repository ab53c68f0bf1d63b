-- The numbers by which C knows what the crates below name: those of include/bully.h.
use Rattle.std.specs.Prelude.{ℕ, ◌==◌, Option, None, Some, Result, Ok, Err, if◌then◌else◌}
use Rattle.bully_base.specs.declared.node.Status.{Status}
use Rattle.bully_base.specs.declared.setup.SetupFault.{SetupFault}
use Rattle.bully_calls.specs.declared.call.Answer.{Answer}
use Rattle.bully_calls.specs.declared.call.CallKind.{CallKind}
use Rattle.bully_lines.specs.declared.fault.ReplyFault.{ReplyFault}
use Rattle.bully_lines.specs.declared.fault.RequestFault.{RequestFault}
use Rattle.bully_rows.specs.declared.trace.TraceCause.{TraceCause}
use Rattle.bully_steps.specs.declared.point.Want.{Want}
use Rattle.bully_table.specs.declared.table.TableFault.{TableFault}
use Rattle.bully_calls.specs.declared.event.Event.{Event}
use Rattle.bully_calls.specs.declared.event.Refused.{Refused}
use Rattle.bully_calls.specs.Events.{refusal_number}
use Rattle.bully_replica.specs.declared.row_replica.LearnFault.{LearnFault}
use Rattle.bully_trace.specs.declared.verdict.Violation.{Violation}

abbrev pub setup_number : SetupFault → ℕ
setup_number SetupFault.BadNodes = 25
setup_number SetupFault.BadPartitions = 26
setup_number SetupFault.BadLimit = 27
setup_number SetupFault.BadWeights = 28

abbrev pub request_number : RequestFault → ℕ
request_number RequestFault.Word = 40
request_number RequestFault.Caller = 41
request_number RequestFault.Number = 42
request_number RequestFault.Callee = 43
request_number RequestFault.Kind = 44
request_number (RequestFault.Table TableFault.OutOfMemory) = 23
request_number (RequestFault.Table fault) = 45

abbrev pub reply_number : ReplyFault → ℕ
reply_number ReplyFault.Word = 40
reply_number ReplyFault.Caller = 41
reply_number ReplyFault.Number = 42
reply_number ReplyFault.Answer = 46

abbrev pub trace_number : TraceCause → ℕ
trace_number TraceCause.BadHeader = 50
trace_number TraceCause.BadRow = 51
trace_number TraceCause.TooManyRows = 52
trace_number TraceCause.OutOfMemory = 23
trace_number TraceCause.Read = 23
trace_number TraceCause.Write = 23

-- of the text of a header: with a row after it, that is none
abbrev pub header_number : TraceCause → ℕ
header_number TraceCause.BadHeader = 50
header_number TraceCause.BadRow = 50
header_number TraceCause.TooManyRows = 50
header_number TraceCause.OutOfMemory = 23
header_number TraceCause.Read = 23
header_number TraceCause.Write = 23

-- of a row of a log that isn't learned
abbrev pub learn_fault_number : LearnFault → ℕ
learn_fault_number (LearnFault.Form cause) = trace_number cause
learn_fault_number (LearnFault.Violation (Violation.Refused why)) = refusal_number why
learn_fault_number (LearnFault.Violation Violation.Differs) = 53

-- the event of node i of this number, if it is one
abbrev pub event_numbered : ℕ → ℕ → Option Event
event_numbered number i =
    if number == 1 then Some (Event.Crash i) else if number == 2 then Some (Event.Recover i) else if number == 3
    then Some (Event.Check i)
    else if number == 4 then Some (Event.Timeout i) else if number == 5 then Some (Event.Drop i) else None

abbrev pub answer_number : Answer → ℕ
answer_number Answer.Done = 0
answer_number Answer.Yes = 1
answer_number Answer.No = 2
answer_number Answer.Failed = 3
answer_number Answer.Discarded = 4

abbrev pub status_number : Status → ℕ
status_number Status.Down = 0
status_number Status.Election = 1
status_number Status.Reorganization = 2
status_number Status.Normal = 3

abbrev pub want_number : Want → ℕ
want_number Want.Nothing = 0
want_number (Want.Start call) = 1
want_number Want.Move = 2
want_number Want.Plan = 3
want_number Want.Await = 4

abbrev pub kind_number : CallKind → ℕ
kind_number CallKind.AreYouUp = 1
kind_number CallKind.AreYouNormal = 2
kind_number CallKind.Halt = 3
kind_number CallKind.NewCoordinator = 4
kind_number CallKind.Ready = 5

-- the status of an event that was taken, or is refused
abbrev pub step_number : {A : Type 0} → Result A Refused → ℕ
step_number (Ok a) = 0
step_number (Err why) = refusal_number why
