-- The numbers by which C knows what bully_member names: those of include/bully.h.
use Rattle.std.specs.Prelude.{ℕ, ◌==◌, Option, None, Some, if◌then◌else◌}
use Rattle.bully_member.specs.declared.opening.MemberFault.{MemberFault}
use Rattle.bully_member.specs.declared.values.Activity.{Activity}
use Rattle.bully_member.specs.declared.values.Reason.{Reason}
use Rattle.bully_member.specs.declared.values.Until.{Until}
use Rattle.bully_member.specs.declared.values.Ending.{Ending}
use Rattle.bully_member.specs.declared.values.SessionState.{SessionState}
use Rattle.bully_member.specs.declared.values.StoreAnswer.{StoreAnswer}
use Rattle.bully_member.specs.declared.values.Work.{Work}

abbrev pub member_number : MemberFault → ℕ
member_number MemberFault.BadNode = 2
member_number MemberFault.TableLength = 29
member_number MemberFault.BadRowsMax = 33
member_number MemberFault.BadTtl = 34
member_number MemberFault.OutOfMemory = 23

-- the answer of this number, if it is one
abbrev pub answer_numbered : ℕ → Option StoreAnswer
answer_numbered number =
    if number == 1 then Some StoreAnswer.Done else if number == 2 then Some StoreAnswer.Refused else if number == 3
    then Some StoreAnswer.Unanswered else None

abbrev pub until_number : Until → ℕ
until_number Until.News = 1
until_number Until.AnyIdle = 2
until_number Until.AllIdle = 3
until_number Until.Promises = 4

-- those of the rules in docs/REBALANCING.md
abbrev pub reason_number : Reason → ℕ
reason_number Reason.Answer = 2
reason_number Reason.Stop = 3
reason_number Reason.Pause = 4
reason_number Reason.Held = 11
reason_number Reason.Rebalance = 12
reason_number Reason.Stable = 18
reason_number Reason.Admission = 19
reason_number Reason.Turn = 21
reason_number Reason.Others = 22

abbrev pub activity_number : Activity → ℕ
activity_number Activity.Idle = 0
activity_number Activity.Working = 1
activity_number Activity.Stopping = 2

abbrev pub ending_number : Ending → ℕ
ending_number Ending.Left = 1
ending_number Ending.NotThere = 2
ending_number Ending.Broken = 3

abbrev pub ending_or_none : Option Ending → ℕ
ending_or_none None = 0
ending_or_none (Some ending) = ending_number ending

abbrev pub session_number : SessionState → ℕ
session_number SessionState.Absent = 0
session_number (SessionState.Unknown session) = 1
session_number (SessionState.Live session since) = 2

abbrev pub session_process : SessionState → ℕ
session_process SessionState.Absent = 0
session_process (SessionState.Unknown session) = session.process
session_process (SessionState.Live session since) = session.process

-- how many sessions its process has asked for, up to and including this one
abbrev pub session_count : SessionState → ℕ
session_count SessionState.Absent = 0
session_count (SessionState.Unknown session) = session.number
session_count (SessionState.Live session since) = session.number

abbrev pub session_since : SessionState → ℕ
session_since SessionState.Absent = 0
session_since (SessionState.Unknown session) = 0
session_since (SessionState.Live session since) = since

abbrev pub work_number : Work → ℕ
work_number Work.Idle = 0
work_number (Work.Working token) = 1
work_number (Work.Lost token) = 2
work_number (Work.Stopping token) = 3

abbrev pub work_token : Work → ℕ
work_token Work.Idle = 0
work_token (Work.Working token) = token
work_token (Work.Lost token) = token
work_token (Work.Stopping token) = token
