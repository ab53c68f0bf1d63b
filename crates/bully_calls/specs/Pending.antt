-- A call that was started and is still in its caller's slot.
use Rattle.std.specs.Prelude.{ℕ, Bool, true, false, List, Option, Some, None}
use Rattle.bully_calls.specs.declared.call.Answer.{Answer}
use Rattle.bully_calls.specs.declared.call.Call.{Call}
use Rattle.bully_calls.specs.declared.call.Outcome.{Outcome}
use Rattle.bully_calls.specs.declared.call.PendingCall.{PendingCall}
use Rattle.bully_calls.specs.declared.call.Phase.{Phase}

-- a pending call: the call, the table that a Ready carries, how far it came, and whether it is live or an orphan
pub record Pending : Type 0 where
  pub call : Call
  pub table : Option (List ℕ)
  pub phase : Phase
  pub is_live : Bool

-- the same without the table
abbrev pub pending_call : Pending → PendingCall
pending_call c = record { call = c.call; phase = c.phase; is_live = c.is_live }

-- its caller was stopped
abbrev pub orphan_of : Pending → Pending
orphan_of c = record c { is_live = false }

abbrev pub is_sent : Phase → Bool
is_sent Phase.Sent = true
is_sent (Phase.Ran a) = false
is_sent Phase.Failed = false

abbrev pub is_failed : Phase → Bool
is_failed Phase.Sent = false
is_failed (Phase.Ran a) = false
is_failed Phase.Failed = true

-- what a call that ran or failed tells its caller
abbrev pub outcome_of : Phase → Option Outcome
outcome_of Phase.Sent = None
outcome_of (Phase.Ran Answer.Yes) = Some Outcome.Yes
outcome_of (Phase.Ran Answer.No) = Some Outcome.No
outcome_of (Phase.Ran _) = None
outcome_of Phase.Failed = Some Outcome.Failed

abbrev pub answer_of : Outcome → Answer
answer_of Outcome.Started = Answer.Done
answer_of Outcome.Moved = Answer.Done
answer_of Outcome.Planned = Answer.Done
answer_of Outcome.Yes = Answer.Yes
answer_of Outcome.No = Answer.No
answer_of Outcome.Failed = Answer.Failed
