-- Headers and rows are lines of fields in which no byte calls for quotes.
use Rattle.std.proofs.Common.{ℕ, ◌+◌, ◌^◌, ◌<◌, Bool, true, false, List, [], ◌∷◌, reverse, map, Option, Some, None, All, arith, refl, IfSome}
use Rattle.std.specs.Fmt.{decimal}
use Rattle.std.proofs.lemmas.List.Elements.{All-head, All-tail}
use Rattle.bully_base.specs.NodeSet.{IsFallingBelow}
use Rattle.bully_base.specs.Setup.{IsSetup, Setup}
use Rattle.bully_base.specs.declared.node.Status.{Status}
use Rattle.bully_base.specs.declared.node.Status.TheVariants.{Down, Election, Reorganization, Normal}
use Rattle.bully_calls.specs.declared.call.Answer.{Answer}
use Rattle.bully_calls.specs.declared.call.Answer.TheVariants.{Done, Yes, No, Failed, Discarded}
use Rattle.bully_calls.specs.declared.call.CallKind.{CallKind}
use Rattle.bully_calls.specs.declared.call.CallKind.TheVariants.{AreYouUp, AreYouNormal, Halt, NewCoordinator, Ready}
use Rattle.bully_calls.specs.declared.event.Event.{Event}
use Rattle.bully_calls.specs.Events.{node_of}
use Rattle.bully_table.specs.TableText.{owners_text}
use Rattle.bully_calls.specs.declared.call.Call.{Call}
use Rattle.bully_calls.specs.declared.kind.NodeEventKind.{NodeEventKind}
use Rattle.bully_rows.specs.declared.header.Version.{Version}
use Rattle.bully_rows.specs.declared.trace.Claim.{Claim}
use Rattle.bully_rows.specs.declared.trace.Row.{Row}
use Rattle.bully_rows.specs.Headers.{nodes_max}
use Rattle.bully_rows.specs.ReadBack.{AreOwners, IsClaimTold, IsEventTold, IsNamed, IsRowTold, IsWholeTold}
use Rattle.bully_rows.specs.TraceText.{claim_fields, event_fields, header_fields, node_text, row_fields, set_text, task_text}
use Rattle.bully_rows.specs.Whole.{Whole}
use Rattle.bully_rows.specs.Words.{answer_word, call_word, keeps_word, status_word}
use Rattle.bully_rows.proofs.KindLemmas.{bare-word}
use Rattle.bully_rows.proofs.LineTexts.{AreLines, IsBare, IsLine, bare-decimal, bare-numbers}
use Rattle.bully_rows.proofs.ListTexts.{owners-small, turned-small, weights-small}
use Rattle.bully_rows.proofs.NumberTexts.{named-small}

-- ---- words

bare-status : (s : Status) → IsBare (status_word s)
bare-status Down = refl
bare-status Election = refl
bare-status Reorganization = refl
bare-status Normal = refl

bare-kind : (kind : CallKind) → IsBare (call_word kind)
bare-kind AreYouUp = refl
bare-kind AreYouNormal = refl
bare-kind Halt = refl
bare-kind NewCoordinator = refl
bare-kind Ready = refl

bare-answer : (a : Answer) → IsBare (answer_word a)
bare-answer Done = refl
bare-answer Yes = refl
bare-answer No = refl
bare-answer Failed = refl
bare-answer Discarded = refl

bare-keeps : (keeps : Bool) → IsBare (keeps_word keeps)
bare-keeps true = refl
bare-keeps false = refl

-- ---- fields

bare-named : (version : Version) (i : ℕ) → IsNamed version i → IsBare (decimal i)
bare-named version i named = bare-decimal i (named-small version i named)

bare-node : (version : Version) (o : Option ℕ) → IfSome o (IsNamed version) → IsBare (node_text o)
bare-node version None named = refl
bare-node version (Some i) named = bare-named version i named

bare-set : (version : Version) (set : List ℕ) → IsFallingBelow (nodes_max version + 1) set → IsBare (set_text set)
bare-set version [] falls = refl
bare-set version (i ∷ set) falls = bare-numbers (reverse (i ∷ set)) (turned-small version (nodes_max version + 1) (i ∷ set) (omega arith) falls)

bare-task : (setup : Setup) (task : Option (List ℕ)) → IsSetup setup → IfSome task (AreOwners setup) → IsBare (task_text 32 task)
bare-task setup None within are = refl
bare-task setup (Some owners) within are = bare-numbers owners (owners-small setup owners within are.1)

-- ---- rows

event-line : (version : Version) (setup : Setup) (e : Event) → IsSetup setup → IsEventTold version setup e → IsLine (event_fields e)
event-line version setup (Event.Plan i table) within told =
    (refl, (bare-named version i told.0, (bare-numbers table (owners-small setup table within told.1.1), tt)))
event-line version setup e within told = (refl, (bare-named version (node_of e) told, tt))

detail-line : (version : Version) (i : ℕ) (kind : NodeEventKind) (call : Call) (answer : Option Answer) → IsNamed version i → IsNamed version call.callee
    → IsLine (row_fields (Row.Detailed (record { node = i; detail = record { kind = kind; call = call; answer = answer } })))
detail-line version i kind call None node callee =
    (bare-word kind, (bare-named version i node, (bare-kind call.kind, (bare-named version call.callee callee, tt))))
detail-line version i kind call (Some a) node callee =
    (bare-word kind, (bare-named version i node, (bare-kind call.kind, (bare-named version call.callee callee, (bare-answer a, tt)))))

claim-line : (version : Version) (claim : Claim) → IsClaimTold version claim → IsLine (claim_fields claim)
claim-line version claim told =
    (refl, (bare-named version claim.node told.0, (bare-status claim.status, (bare-node version claim.coordinator told.1, tt))))

whole-line : (version : Version) (setup : Setup) (whole : Whole) → IsSetup setup → IsWholeTold version setup whole → IsLine (row_fields (Row.Whole whole))
whole-line version setup whole within told = (
  refl,
  (
    bare-named version whole.claim.node told.claim.0,
    (
      bare-status whole.claim.status,
      (
        bare-node version whole.claim.coordinator told.claim.1,
        (bare-node version whole.halter told.halter, (bare-set version whole.up told.up, (bare-task setup whole.task within told.task, tt))),
      ),
    ),
  ),
)

row-line : (version : Version) (setup : Setup) (row : Row) → IsSetup setup → IsRowTold version setup row → IsLine (row_fields row)
row-line version setup (Row.Event e) within told = event-line version setup e within told
row-line version setup (Row.Detailed e) within told = detail-line version e.node e.detail.kind e.detail.call e.detail.answer told.0 told.1.0
row-line version setup (Row.Claim claim) within told = claim-line version claim told
row-line version setup (Row.Whole whole) within told = whole-line version setup whole within told

pub row-lines : (version : Version) (setup : Setup) (rows : List Row) → IsSetup setup → All (IsRowTold version setup) rows → AreLines (map row_fields rows)
row-lines version setup [] within told = tt
row-lines version setup (row ∷ rows) within told =
    (row-line version setup row within (All-head (IsRowTold version setup) row rows told), row-lines version setup rows within (All-tail (IsRowTold version setup) row rows told))

-- ---- headers

node-count-small : (setup : Setup) → IsSetup setup → setup.nodes < 2 ^ 64
node-count-small setup within = let low = within.nodes in omega arith

partition-count-small : (setup : Setup) → IsSetup setup → setup.partitions < 2 ^ 64
partition-count-small setup within = let low = within.partitions in omega arith

pub header-line : (version : Version) (setup : Setup) → IsSetup setup → IsLine (header_fields version setup)
header-line version setup within = by_version version (bare-decimal setup.nodes (node-count-small setup within)) (bare-decimal setup.partitions (partition-count-small setup within))
    (bare-numbers setup.weights (weights-small setup.weights within.weights.1))
  where
    by_version : (version : Version) → IsBare (decimal setup.nodes) → IsBare (decimal setup.partitions) → IsBare (owners_text 32 setup.weights) → IsLine (header_fields version setup)
    by_version Version.One nodes partitions weights = (refl, (refl, (nodes, (partitions, tt))))
    by_version Version.Two nodes partitions weights = (refl, (refl, (nodes, (partitions, (weights, (bare-keeps setup.keeps, tt))))))
    by_version Version.Three nodes partitions weights = (refl, (refl, (nodes, (partitions, (weights, (bare-keeps setup.keeps, tt))))))
