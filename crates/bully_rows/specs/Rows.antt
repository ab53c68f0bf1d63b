-- The rows of a trace: what the records of its text mean, or the first faulty row.
use Rattle.std.specs.Prelude.{◌≡◌, ◌⊎◌, ℕ, ◌+◌, ◌++◌, length, ⊤, IfSome, IsOk, IsTrue, Bool, true, false, List, [], ◌∷◌}
use Rattle.std.specs.Prelude.{Option, Some, None, Result, Ok, Err, nat_lt, codes, option_map, option_and_then}
use Rattle.std.specs.Prelude.{if◌then◌else◌}
use Rattle.std.specs.Result.{result_ok}
use Rattle.std.specs.Str.{bytes_eq}
use Rattle.csv.specs.Reading.{records, default_config, strip_bom}
use Rattle.bully_base.specs.NodeSet.{with_node}
use Rattle.bully_base.specs.Setup.{Setup}
use Rattle.bully_table.specs.TableText.{pieces_of, table_of_text}
use Rattle.bully_calls.specs.declared.call.Answer.{Answer}
use Rattle.bully_calls.specs.declared.call.Call.{Call}
use Rattle.bully_calls.specs.declared.event.Event.{Event}
use Rattle.bully_calls.specs.declared.kind.Saying.{Saying}
use Rattle.bully_rows.specs.declared.TheConstants.{ROWS_MAX}
use Rattle.bully_rows.specs.declared.detail.Detail.{Detail}
use Rattle.bully_rows.specs.declared.header.Header.{Header}
use Rattle.bully_rows.specs.declared.header.Version.{Version}
use Rattle.bully_rows.specs.declared.trace.Claim.{Claim}
use Rattle.bully_rows.specs.declared.trace.Row.{Row}
use Rattle.bully_rows.specs.declared.trace.TraceCause.{TraceCause}
use Rattle.bully_rows.specs.declared.trace.TraceFault.{TraceFault}
use Rattle.bully_rows.specs.EventsTold.{answered, unanswered}
use Rattle.bully_rows.specs.Headers.{Record, header_of, node_in, says_more}
use Rattle.bully_rows.specs.Trace.{Trace, headed}
use Rattle.bully_calls.specs.Events.{kind_named, node_saying}
use Rattle.bully_rows.specs.Kinds.{event_named, plan_word}
use Rattle.bully_rows.specs.Words.{call_named, outcome_named, reply_named, status_named}

-- the number is above all members of the set
abbrev pub is_above : ℕ → List ℕ → Bool
is_above i [] = true
is_above i (j ∷ set) = nat_lt j i

-- a node, or none
abbrev pub coordinator_in : Version → List ℕ → Option (Option ℕ)
coordinator_in version text = if bytes_eq text (codes "-") then Some None else option_map Some (node_in version text)

abbrev pub plan_in : Version → Setup → List ℕ → List ℕ → Option Row
plan_in version setup node owners =
    option_and_then (λ i. option_map (λ table. Row.Event (Event.Plan i table)) (result_ok (table_of_text setup owners)))
    (node_in version node)

-- the claim that these fields make
abbrev pub claim_in : Version → List ℕ → List ℕ → List ℕ → Option Claim
claim_in version node status coordinator =
    option_and_then (λ i. option_and_then (λ s. option_map (λ c. record { node = i; status = s; coordinator = c })
    (coordinator_in version coordinator)) (status_named status))
    (node_in version node)

-- the call of this kind to this node
abbrev pub call_in : Version → List ℕ → List ℕ → Option Call
call_in version kind callee =
    option_and_then (λ k. option_map (λ j. record { callee = j; kind = k }) (node_in version callee)) (call_named kind)

-- a call is said, and no answer
abbrev pub is_unanswered : Saying → Bool
is_unanswered Saying.Nothing = false
is_unanswered Saying.Offered = true
is_unanswered Saying.Held = true
is_unanswered Saying.Replied = false
is_unanswered Saying.Brought = false

-- the answer of this word, where one is said
abbrev pub answer_in : Saying → List ℕ → Option Answer
answer_in Saying.Nothing word = None
answer_in Saying.Offered word = None
answer_in Saying.Held word = None
answer_in Saying.Replied word = reply_named word
answer_in Saying.Brought word = outcome_named word

-- what is said beside an event of this word, where no answer is told
abbrev pub unanswered_in : List ℕ → Call → Option Detail
unanswered_in word call = option_and_then (λ kind. if is_unanswered (node_saying kind) then Some (unanswered kind call)
    else None) (kind_named word)

-- the same, where one is told
abbrev pub answered_in : List ℕ → List ℕ → Call → Option Detail
answered_in word answer call =
    option_and_then (λ kind. option_map (answered kind call) (answer_in (node_saying kind) answer)) (kind_named word)

-- the row that says this of an event of the node, in a version that says it
abbrev pub detailed : Version → List ℕ → Option Detail → Option Row
detailed version node detail =
    if says_more version then option_and_then (λ i.
    option_map (λ d. Row.Detailed (record { node = i; detail = d })) detail) (node_in version node) else None

abbrev pub unanswered_row : Version → List ℕ → List ℕ → List ℕ → List ℕ → Option Row
unanswered_row version word node kind callee =
    detailed version node (option_and_then (unanswered_in word) (call_in version kind callee))

abbrev pub answered_row : Version → List ℕ → List ℕ → List ℕ → List ℕ → List ℕ → Option Row
answered_row version word node kind callee answer =
    detailed version node (option_and_then (answered_in word answer) (call_in version kind callee))

-- the nodes that these pieces are, each above those before it, put into the set
abbrev pub set_from : Version → List ℕ → List (List ℕ) → Option (List ℕ)
set_from version set [] = Some set
set_from version set (piece ∷ pieces) =
    option_and_then (λ i. if is_above i set then set_from version (with_node i set) pieces else
    None) (node_in version piece)

-- a set of nodes in rising order, parted by single spaces, or none at all
abbrev pub set_in : Version → List ℕ → Option (List ℕ)
set_in version text = if bytes_eq text (codes "-") then Some [] else set_from version [] (pieces_of text)

-- a table, or none
abbrev pub task_in : Setup → List ℕ → Option (Option (List ℕ))
task_in setup text = if bytes_eq text (codes "-") then Some None else
    option_map Some (result_ok (table_of_text setup text))

-- a claim that tells all of a vector, in a version that has such
abbrev pub whole_of : Version → Setup → Option Claim → List ℕ → List ℕ → List ℕ → Option Row
whole_of version setup claim halter up owners =
    option_and_then (λ c. option_and_then (λ h. option_and_then (λ u. option_map (λ t.
    Row.Whole (record { claim = c; halter = h; up = u; task = t }))
    (task_in setup owners)) (set_in version up)) (coordinator_in version halter)) claim

abbrev pub whole_row : Version → Setup → List ℕ → List ℕ → List ℕ → List ℕ → List ℕ → List ℕ → Option Row
whole_row version setup node status coordinator halter up owners =
    if says_more version then whole_of version setup (claim_in version node status coordinator) halter up owners else
    None

-- what a later record means in a trace of this version and this setup
abbrev pub row_of : Version → Setup → Record → Option Row
row_of version setup [] = None
row_of version setup (a ∷ []) = None
row_of version setup (word ∷ node ∷ []) =
    option_and_then (λ i. option_map Row.Event (event_named word i)) (node_in version node)
row_of version setup (word ∷ node ∷ owners ∷ []) = if bytes_eq word plan_word then plan_in version setup node owners
    else None
row_of version setup (word ∷ node ∷ third ∷ fourth ∷ []) =
    if bytes_eq word (codes "saw") then option_map Row.Claim (claim_in version node third fourth) else
    unanswered_row version word node third fourth
row_of version setup (word ∷ node ∷ call ∷ callee ∷ answer ∷ []) = answered_row version word node call callee answer
row_of version setup (a ∷ b ∷ c ∷ d ∷ e ∷ f ∷ []) = None
row_of version setup (word ∷ node ∷ status ∷ coordinator ∷ halter ∷ up ∷ owners ∷ []) =
    if bytes_eq word (codes "saw") then whole_row version setup node status coordinator halter up owners else None
row_of version setup (a ∷ b ∷ c ∷ d ∷ e ∷ f ∷ g ∷ h ∷ rest) = None

abbrev pub fault_at : ℕ → TraceCause → TraceFault
fault_at row cause = record { row = row; cause = cause }

-- the value that is read, changed by a function
abbrev pub read_as : {A B : Type 0} → (A → B) → Result A TraceFault → Result B TraceFault
read_as f (Ok x) = Ok (f x)
read_as f (Err fault) = Err fault

-- the rows from this number on, after this header
abbrev pub rows_from : Header → ℕ → List Record → Result (List Row) TraceFault
rows_from header number [] = Ok []
rows_from header number (fields ∷ rest) =
    if nat_lt (ROWS_MAX + 1) number then Err (fault_at number TraceCause.TooManyRows)
    else elim (row_of header.version header.setup fields) [
      | None ↦ Err (fault_at number TraceCause.BadRow)
      | Some row ↦ read_as (λ rows. row ∷ rows) (rows_from header (number + 1) rest)
    ]

-- the trace that the records mean, or the fault of the first faulty row
abbrev pub trace_of : List Record → Result Trace TraceFault
trace_of [] = Err (fault_at 1 TraceCause.BadHeader)
trace_of (first ∷ rest) =
    elim (header_of first) [
      | None ↦ Err (fault_at 1 TraceCause.BadHeader)
      | Some header ↦ read_as (headed header) (rows_from header 2 rest)
    ]

-- the records of a text, as `csv` gives them
abbrev pub records_of : List ℕ → List Record
records_of text = records default_config (strip_bom text)

-- a fault of form, which the rows have; the others come from reading, writing and memory
abbrev pub is_of_form : TraceCause → Bool
is_of_form TraceCause.BadHeader = true
is_of_form TraceCause.BadRow = true
is_of_form TraceCause.TooManyRows = true
is_of_form TraceCause.Read = false
is_of_form TraceCause.Write = false
is_of_form TraceCause.OutOfMemory = false

-- want of memory, which is told at row 0
abbrev pub no_memory : TraceFault
no_memory = fault_at 0 TraceCause.OutOfMemory

-- a fault of writing or of memory, at row 0
abbrev pub IsOfWriting : TraceFault → Type 0
IsOfWriting fault = (fault.row ≡ 0) × ((fault.cause ≡ TraceCause.Write) ⊎ (fault.cause ≡ TraceCause.OutOfMemory))

-- none of these records, from the header on, is at fault
abbrev pub AreFaultless : List Record → Type 0
AreFaultless [] = ⊤
AreFaultless (first ∷ rest) = IsOk (trace_of (first ∷ rest))

-- the row is one more than those before it, which the first records mean without a fault
abbrev pub IsBehind : ℕ → List Record → Type 0
IsBehind row records =
    (before : List Record) × (rest : List Record) × (records ≡ before ++ rest) × (row ≡ length before + 1)
    × AreFaultless before

-- what is said of a text holds where the bytes of a reader are known

-- the text means the trace
abbrev pub IsTraceOf : Option (List ℕ) → Trace → Type 0
IsTraceOf known trace = IfSome known (λ bytes. trace_of (records_of bytes) ≡ Ok trace)

-- the text means a trace of which this is so
abbrev pub OfTrace : Option (List ℕ) → (Trace → Type 0) → Type 0
OfTrace known P = IfSome known (λ bytes. (trace : Trace) × (trace_of (records_of bytes) ≡ Ok trace) × P trace)

-- the text has no fault of form
abbrev pub HasNoFault : Option (List ℕ) → Type 0
HasNoFault known = IfSome known (λ bytes. IsOk (trace_of (records_of bytes)))

-- a fault of form is the text's first one
abbrev pub IsFirstFault : Option (List ℕ) → TraceFault → Type 0
IsFirstFault known fault = IsTrue (is_of_form fault.cause)
    → IfSome known (λ bytes. trace_of (records_of bytes) ≡ Err fault)

-- a failed read is told at the row after those that were read
abbrev pub IsReadAtItsRow : Option (List ℕ) → TraceFault → Type 0
IsReadAtItsRow known fault = fault.cause ≡ TraceCause.Read
    → IfSome known (λ bytes. IsBehind fault.row (records_of bytes))
