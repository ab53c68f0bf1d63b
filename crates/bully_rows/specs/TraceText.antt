-- The text of a trace: its header and its rows, a line each.
use Rattle.std.specs.Prelude.{ℕ, List, [], ◌∷◌, ◌++◌, Option, Some, None, codes, reverse}
use Rattle.std.specs.List.{join_with_byte}
use Rattle.std.specs.Fmt.{decimal}
use Rattle.bully_base.specs.Setup.{Setup}
use Rattle.bully_table.specs.TableText.{owners_text}
use Rattle.bully_calls.specs.declared.call.Answer.{Answer}
use Rattle.bully_calls.specs.declared.call.Call.{Call}
use Rattle.bully_calls.specs.declared.event.Event.{Event}
use Rattle.bully_calls.specs.Events.{kind_of, node_of, node_word, word_of}
use Rattle.bully_rows.specs.declared.detail.DetailedEvent.{DetailedEvent}
use Rattle.bully_rows.specs.declared.header.Version.{Version}
use Rattle.bully_rows.specs.declared.trace.Claim.{Claim}
use Rattle.bully_rows.specs.declared.trace.Row.{Row}
use Rattle.bully_rows.specs.declared.trace.TraceCause.{TraceCause}
use Rattle.bully_rows.specs.Trace.{Trace}
use Rattle.bully_rows.specs.Kinds.{plan_word}
use Rattle.bully_rows.specs.Words.{answer_word, call_word, keeps_word, status_word}

-- the cause of a trace's fault as the program tells it
abbrev pub trace_cause_text : TraceCause → List ℕ
trace_cause_text TraceCause.BadHeader = codes "BadHeader"
trace_cause_text TraceCause.BadRow = codes "BadRow"
trace_cause_text TraceCause.TooManyRows = codes "TooManyRows"
trace_cause_text TraceCause.Read = codes "Read"
trace_cause_text TraceCause.Write = codes "Write"
trace_cause_text TraceCause.OutOfMemory = codes "OutOfMemory"

-- a node, or a dash
abbrev pub node_text : Option ℕ → List ℕ
node_text None = codes "-"
node_text (Some i) = decimal i

-- the owners of a task, with the separator between each two, or a dash
abbrev pub task_text : ℕ → Option (List ℕ) → List ℕ
task_text separator None = codes "-"
task_text separator (Some owners) = owners_text separator owners

abbrev pub line_of : List (List ℕ) → List ℕ
line_of fields = join_with_byte 44 fields ++ codes "\n"

-- the owners of a Plan are parted by spaces
abbrev pub event_fields : Event → List (List ℕ)
event_fields (Event.Plan i table) = plan_word ∷ decimal i ∷ owners_text 32 table ∷ []
event_fields e = word_of (kind_of e) ∷ decimal (node_of e) ∷ []

-- what is said beside an event
abbrev pub call_fields : Call → List (List ℕ)
call_fields call = call_word call.kind ∷ decimal call.callee ∷ []

abbrev pub answer_fields : Option Answer → List (List ℕ)
answer_fields None = []
answer_fields (Some a) = answer_word a ∷ []

abbrev pub detailed_fields : DetailedEvent → List (List ℕ)
detailed_fields e =
    node_word e.detail.kind ∷ decimal e.node ∷ (call_fields e.detail.call ++ answer_fields e.detail.answer)

abbrev pub claim_fields : Claim → List (List ℕ)
claim_fields claim = codes "saw" ∷ decimal claim.node ∷ status_word claim.status ∷ node_text claim.coordinator ∷ []

-- the space after a lower node
abbrev pub gap_behind : Option ℕ → List ℕ
gap_behind None = []
gap_behind (Some i) = codes " "

-- the members of a set in rising order, or a dash
abbrev pub set_text : List ℕ → List ℕ
set_text [] = codes "-"
set_text (i ∷ set) = owners_text 32 (reverse (i ∷ set))

-- what a whole claim tells after the fields of another one, each field after a comma
abbrev pub rest_text : Option ℕ → List ℕ → Option (List ℕ) → List ℕ
rest_text halter up task = codes "," ++ node_text halter ++ codes "," ++ set_text up ++ codes "," ++ task_text 32 task

abbrev pub row_fields : Row → List (List ℕ)
row_fields (Row.Event e) = event_fields e
row_fields (Row.Detailed e) = detailed_fields e
row_fields (Row.Claim claim) = claim_fields claim
row_fields (Row.Whole whole) =
    claim_fields whole.claim ++ node_text whole.halter ∷ set_text whole.up ∷ task_text 32 whole.task ∷ []

abbrev pub rows_text : List Row → List ℕ
rows_text [] = []
rows_text (row ∷ rows) = line_of (row_fields row) ++ rows_text rows

-- the weights of a header after version 1 are parted by spaces
abbrev pub later_fields : List ℕ → Setup → List (List ℕ)
later_fields version setup =
    codes "bully" ∷ version ∷ decimal setup.nodes ∷ decimal setup.partitions ∷ owners_text 32 setup.weights
    ∷ keeps_word setup.keeps ∷ []

abbrev pub header_fields : Version → Setup → List (List ℕ)
header_fields Version.One setup = codes "bully" ∷ codes "1" ∷ decimal setup.nodes ∷ decimal setup.partitions ∷ []
header_fields Version.Two setup = later_fields (codes "2") setup
header_fields Version.Three setup = later_fields (codes "3") setup

abbrev pub trace_text : Trace → List ℕ
trace_text trace = line_of (header_fields trace.version trace.setup) ++ rows_text trace.rows
