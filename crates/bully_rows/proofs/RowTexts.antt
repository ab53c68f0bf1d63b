-- The fields of a row, read back.
use Rattle.std.proofs.Common.{◌≡◌, ℕ, Bool, true, false, Option, Some, None, refl, ap, option_map}
use Rattle.std.specs.Fmt.{decimal}
use Rattle.bully_base.specs.declared.node.Status.{Status}
use Rattle.bully_base.specs.declared.node.Status.TheVariants.{Down, Election, Reorganization, Normal}
use Rattle.bully_base.specs.Setup.{IsSetup, Setup}
use Rattle.bully_calls.specs.declared.call.Answer.{Answer}
use Rattle.bully_calls.specs.declared.call.Answer.TheVariants.{Done, Yes, No, Failed, Discarded}
use Rattle.bully_calls.specs.declared.call.Call.{Call}
use Rattle.bully_calls.specs.declared.call.CallKind.{CallKind}
use Rattle.bully_calls.specs.declared.call.CallKind.TheVariants.{AreYouUp, AreYouNormal, Halt, NewCoordinator, Ready}
use Rattle.bully_calls.specs.declared.event.Event.{Event}
use Rattle.bully_calls.specs.Events.{node_of, node_saying}
use Rattle.bully_calls.specs.declared.kind.NodeEventKind.{NodeEventKind}
use Rattle.bully_calls.specs.declared.kind.Saying.{Saying}
use Rattle.bully_rows.specs.declared.header.Version.{Version}
use Rattle.bully_rows.specs.declared.trace.Claim.{Claim}
use Rattle.bully_rows.specs.declared.trace.Row.{Row}
use Rattle.bully_rows.specs.Headers.{says_more}
use Rattle.bully_rows.specs.ReadBack.{IsAnswerTold, IsClaimTold, IsDetailTold, IsEventTold, IsNamed, IsReply, IsRowTold, IsWholeTold}
use Rattle.bully_rows.specs.Rows.{answer_in, call_in, claim_in, is_unanswered, row_of}
use Rattle.bully_rows.specs.Trace.{is_short}
use Rattle.bully_rows.specs.TraceText.{claim_fields, event_fields, node_text, row_fields}
use Rattle.bully_rows.specs.Whole.{Whole}
use Rattle.bully_rows.specs.Words.{answer_word, call_named, call_word, outcome_named, reply_named, status_named, status_word}
use Rattle.bully_rows.proofs.KindLemmas.{no-claim, word-read}
use Rattle.bully_rows.proofs.ListTexts.{set-read, table-read, task-read}
use Rattle.bully_rows.proofs.NumberTexts.{coordinator-read, node-read}

-- ---- words

status-read : (s : Status) → status_named (status_word s) ≡ Some s
status-read Down = refl
status-read Election = refl
status-read Reorganization = refl
status-read Normal = refl

pub kind-read : (kind : CallKind) → call_named (call_word kind) ≡ Some kind
kind-read AreYouUp = refl
kind-read AreYouNormal = refl
kind-read Halt = refl
kind-read NewCoordinator = refl
kind-read Ready = refl

reply-read : (a : Answer) → IsReply a → reply_named (answer_word a) ≡ Some a
reply-read Done is = refl
reply-read Yes is = refl
reply-read No is = refl
reply-read Failed is = absurd is
reply-read Discarded is = absurd is

outcome-read : (a : Answer) → outcome_named (answer_word a) ≡ Some a
outcome-read Done = refl
outcome-read Yes = refl
outcome-read No = refl
outcome-read Failed = refl
outcome-read Discarded = refl

-- ---- events

event-read : (version : Version) (setup : Setup) (e : Event) → IsSetup setup → IsEventTold version setup e → row_of version setup (event_fields e) ≡ Some (Row.Event e)
event-read version setup (Event.Plan i table) within told = rw (node-read version i told.0, table-read setup table within told.1) refl
event-read version setup e within told = rw (node-read version (node_of e) told) refl

-- ---- details

call-read : (version : Version) (call : Call) → IsNamed version call.callee → call_in version (call_word call.kind) (decimal call.callee) ≡ Some call
call-read version call named = rw (kind-read call.kind, node-read version call.callee named) refl

-- rows that say more are of a version that says it
says-it : (more : Bool) → (more ≡ false → false ≡ true) → more ≡ true
says-it true less = refl
says-it false less = less refl

-- what is told with no answer is said so, and what is told with one is read
alone : (saying : Saying) → IsAnswerTold saying None → is_unanswered saying ≡ true
alone Saying.Nothing told = absurd told
alone Saying.Offered told = refl
alone Saying.Held told = refl
alone Saying.Replied told = absurd told
alone Saying.Brought told = absurd told

answer-read : (saying : Saying) (a : Answer) → IsAnswerTold saying (Some a) → answer_in saying (answer_word a) ≡ Some a
answer-read Saying.Nothing a told = absurd told
answer-read Saying.Offered a told = absurd told
answer-read Saying.Held a told = absurd told
answer-read Saying.Replied a told = reply-read a told
answer-read Saying.Brought a told = outcome-read a

detail-read : (version : Version) (setup : Setup) (i : ℕ) (kind : NodeEventKind) (call : Call) (answer : Option Answer) → says_more version ≡ true → IsNamed version i
    → IsDetailTold version (record { kind = kind; call = call; answer = answer })
    → row_of version setup (row_fields (Row.Detailed (record { node = i; detail = record { kind = kind; call = call; answer = answer } })))
    ≡ Some (Row.Detailed (record { node = i; detail = record { kind = kind; call = call; answer = answer } }))
detail-read version setup i kind call None more node told =
    rw (no-claim kind, more, node-read version i node, call-read version call told.0, word-read kind, alone (node_saying kind) told.1) refl
detail-read version setup i kind call (Some a) more node told =
    rw (more, node-read version i node, call-read version call told.0, word-read kind, answer-read (node_saying kind) a told.1) refl

-- ---- claims

claim-read : (version : Version) (claim : Claim) → IsClaimTold version claim
    → claim_in version (decimal claim.node) (status_word claim.status) (node_text claim.coordinator) ≡ Some claim
claim-read version claim told =
    rw (node-read version claim.node told.0, status-read claim.status, coordinator-read version claim.coordinator told.1) refl

claim-row-read : (version : Version) (setup : Setup) (claim : Claim) → IsClaimTold version claim → row_of version setup (claim_fields claim) ≡ Some (Row.Claim claim)
claim-row-read version setup claim told = ap (option_map Row.Claim) (claim-read version claim told)

whole-read : (version : Version) (setup : Setup) (whole : Whole) → IsSetup setup → says_more version ≡ true → IsWholeTold version setup whole
    → row_of version setup (row_fields (Row.Whole whole)) ≡ Some (Row.Whole whole)
whole-read version setup whole within more told =
    rw (more, claim-read version whole.claim told.claim, coordinator-read version whole.halter told.halter, set-read version whole.up told.up, task-read setup whole.task within told.task) refl

-- ---- rows

pub row-read : (version : Version) (setup : Setup) (row : Row) → IsSetup setup → (says_more version ≡ false → is_short row ≡ true) → IsRowTold version setup row
    → row_of version setup (row_fields row) ≡ Some row
row-read version setup (Row.Event e) within form told = event-read version setup e within told
row-read version setup (Row.Detailed e) within form told = detail-read version setup e.node e.detail.kind e.detail.call e.detail.answer (says-it (says_more version) form) told.0 told.1
row-read version setup (Row.Claim claim) within form told = claim-row-read version setup claim told
row-read version setup (Row.Whole whole) within form told = whole-read version setup whole within (says-it (says_more version) form) told
