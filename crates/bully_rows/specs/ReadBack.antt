-- Traces that a text can tell: what is written of one means that very trace.
use Rattle.std.specs.Prelude.{◌≡◌, ℕ, ◌+◌, ◌<◌, ◌≤◌, ⊤, All, IfSome, List, Ok, Option, Some, None, length}
use Rattle.bully_base.specs.declared.TheConstants.{EVENTS_MAX}
use Rattle.bully_base.specs.NodeSet.{IsFallingBelow}
use Rattle.bully_base.specs.Setup.{IsNode, IsSetup, Setup}
use Rattle.bully_calls.specs.declared.call.Answer.{Answer}
use Rattle.bully_calls.specs.declared.call.Answer.TheVariants.{Done, Yes, No, Failed, Discarded}
use Rattle.bully_calls.specs.declared.event.Event.{Event}
use Rattle.bully_calls.specs.declared.kind.Saying.{Saying}
use Rattle.bully_calls.specs.Events.{node_of, node_saying}
use Rattle.bully_rows.specs.declared.TheConstants.{ROWS_MAX}
use Rattle.bully_rows.specs.declared.detail.Detail.{Detail}
use Rattle.bully_rows.specs.declared.header.Version.{Version}
use Rattle.bully_rows.specs.declared.trace.Claim.{Claim}
use Rattle.bully_rows.specs.declared.trace.Row.{Row}
use Rattle.bully_rows.specs.Headers.{IsVersionFor, Record, nodes_max}
use Rattle.bully_rows.specs.Rows.{records_of, trace_of}
use Rattle.bully_rows.specs.Trace.{AreRowsFor, Trace, upgraded}
use Rattle.bully_rows.specs.TraceText.{trace_text}
use Rattle.bully_rows.specs.Whole.{Whole}

-- a node that the rows of a trace of this version may name
abbrev pub IsNamed : Version → ℕ → Type 0
IsNamed version i = (0 < i) × (i ≤ nodes_max version)

-- an owner for each partition of the setup, each one of its nodes
abbrev pub AreOwners : Setup → List ℕ → Type 0
AreOwners setup owners = (length owners ≡ setup.partitions) × All (IsNode setup) owners

-- what a call can be answered where it runs
abbrev pub IsReply : Answer → Type 0
IsReply Done = ⊤
IsReply Yes = ⊤
IsReply No = ⊤
IsReply Failed = ⊥
IsReply Discarded = ⊥

abbrev pub IsEventTold : Version → Setup → Event → Type 0
IsEventTold version setup (Event.Plan i table) = IsNamed version i × AreOwners setup table
IsEventTold version setup e = IsNamed version (node_of e)

-- the answer, or none, is what is told of events of which this is said
abbrev pub IsAnswerTold : Saying → Option Answer → Type 0
IsAnswerTold Saying.Offered None = ⊤
IsAnswerTold Saying.Held None = ⊤
IsAnswerTold Saying.Replied (Some a) = IsReply a
IsAnswerTold Saying.Brought (Some a) = ⊤
IsAnswerTold _ _ = ⊥

abbrev pub IsDetailTold : Version → Detail → Type 0
IsDetailTold version detail = IsNamed version detail.call.callee × IsAnswerTold (node_saying detail.kind) detail.answer

abbrev pub IsClaimTold : Version → Claim → Type 0
IsClaimTold version claim = IsNamed version claim.node × IfSome claim.coordinator (IsNamed version)

pub record IsWholeTold (version : Version) (setup : Setup) (whole : Whole) : Type 0 where
  pub claim : IsClaimTold version whole.claim
  pub halter : IfSome whole.halter (IsNamed version)
  pub up : IsFallingBelow (nodes_max version + 1) whole.up
  pub task : IfSome whole.task (AreOwners setup)

-- the row is within the limits of this version and this setup
abbrev pub IsRowTold : Version → Setup → Row → Type 0
IsRowTold version setup (Row.Event e) = IsEventTold version setup e
IsRowTold version setup (Row.Detailed e) = IsNamed version e.node × IsDetailTold version e.detail
IsRowTold version setup (Row.Claim claim) = IsClaimTold version claim
IsRowTold version setup (Row.Whole whole) = IsWholeTold version setup whole

-- the trace is one that a text can tell: it is within the limits of its version and of its setup, and bounds the events
-- as a header does, which tells no bound of its own
pub record IsTold (trace : Trace) : Type 0 where
  pub setup : IsSetup trace.setup
  pub events : trace.setup.events_max ≡ EVENTS_MAX
  pub version : IsVersionFor trace.version trace.setup
  pub forms : AreRowsFor trace.version trace.rows
  pub count : length trace.rows ≤ ROWS_MAX
  pub rows : All (IsRowTold trace.version trace.setup) trace.rows

-- what is written of each such trace means that very trace
abbrev pub ReadsBack : Type 0
ReadsBack = (trace : Trace) → IsTold trace → trace_of (records_of (trace_text trace)) ≡ Ok trace

-- each trace that is read is such a one, and so is the upgraded one
abbrev pub ReadsTold : Type 0
ReadsTold = (records : List Record) (trace : Trace) → trace_of records ≡ Ok trace
    → IsTold trace × IsTold (upgraded trace)
