-- What is written for tools, byte for byte: objects of JSON, each a line.
use Rattle.std.specs.Prelude.{ℕ, zero, suc, ◌+◌, ◌/◌, ◌%◌, List, [], ◌∷◌, ◌++◌, ◌==◌, Option, Some, None, codes}
use Rattle.std.specs.Prelude.{encode_utf8, nat_lt, if◌then◌else◌}
use Rattle.std.specs.Fmt.{decimal}
use Rattle.std.specs.Str.{chars}
use Rattle.bully_base.specs.Setup.{Setup}
use Rattle.bully_table.specs.TableText.{owners_text}
use Rattle.bully_table.specs.declared.planning.TablePlan.{TablePlan}
use Rattle.bully_handlers.specs.Vector.{Vector}
use Rattle.bully_calls.specs.Events.{refusal_word}
use Rattle.bully_rows.specs.Words.{status_word}
use Rattle.bully_world.specs.World.{World, vector}
use Rattle.bully_trace.specs.declared.verdict.Verdict.{Verdict}

-- ---- values

-- a digit of base 16
abbrev pub hex_digit : ℕ → ℕ
hex_digit digit = if nat_lt digit 10 then 48 + digit else 87 + digit

-- a letter within quotes: a quote and a backslash after a backslash, a control by its escape
abbrev pub escaped_letter : ℕ → List ℕ
escaped_letter c =
    if c == 34 then codes "\\\""
    else (if c == 92 then codes "\\\\"
    else (if c == 10 then codes "\\n"
    else (if nat_lt c 32 then codes "\\u00" ++ encode_utf8 (hex_digit (c / 16)) ++ encode_utf8 (hex_digit (c % 16)) else
    encode_utf8 c)))

abbrev pub escaped : List ℕ → List ℕ
escaped [] = []
escaped (c ∷ cs) = escaped_letter c ++ escaped cs

-- a text in quotes
abbrev pub quoted : List ℕ → List ℕ
quoted text = codes "\"" ++ escaped (chars text) ++ codes "\""

-- the number of a node, or null
abbrev pub number_text : Option ℕ → List ℕ
number_text None = codes "null"
number_text (Some number) = decimal number

-- the owners of a task, from partition 0 on, or null
abbrev pub task_text : Option (List ℕ) → List ℕ
task_text None = codes "null"
task_text (Some owners) = codes "[" ++ owners_text 44 owners ++ codes "]"

-- ---- objects

-- the members that each object of a node has: its status, and its coordinator
unfoldable pub place_members : Vector → List ℕ
place_members v =
    codes "\"status\":\"" ++ status_word v.status ++ codes "\",\"coordinator\":" ++ number_text v.coordinator

-- its halter
unfoldable pub halter_member : Vector → List ℕ
halter_member v = codes ",\"halter\":" ++ number_text v.halter

-- its task, after which it ends
unfoldable pub task_member : Vector → List ℕ
task_member v = codes ",\"task\":" ++ task_text v.task ++ codes "}"

-- node i with this vector
unfoldable pub node_object : ℕ → Vector → List ℕ
node_object i v = codes "{\"node\":" ++ decimal i ++ codes "," ++ place_members v ++ halter_member v ++ task_member v

-- the comma after so many objects
abbrev pub comma_behind : ℕ → List ℕ
comma_behind count = if count == 0 then [] else codes ","

-- the first n nodes
abbrev pub node_objects : World → ℕ → List ℕ
node_objects w zero = []
node_objects w (suc n) = node_objects w n ++ comma_behind n ++ node_object (n + 1) (vector w (n + 1))

-- the members that tell a verdict
abbrev pub verdict_members : Verdict → List ℕ
verdict_members (Verdict.Lawful count) = codes "\"verdict\":\"lawful\",\"events\":" ++ decimal count
verdict_members (Verdict.Refused row why) =
    codes "\"verdict\":\"refused\",\"row\":" ++ decimal row ++ codes ",\"cause\":\"" ++ refusal_word why ++ codes "\""
verdict_members (Verdict.Differs row) = codes "\"verdict\":\"differs\",\"row\":" ++ decimal row

-- a verdict, with the nodes of the last world where the trace is lawful
abbrev pub nodes_member : Setup → Verdict → World → List ℕ
nodes_member setup (Verdict.Lawful count) w = codes ",\"nodes\":[" ++ node_objects w setup.nodes ++ codes "]"
nodes_member setup verdict w = []

abbrev pub verdict_line : Setup → Verdict → World → List ℕ
verdict_line setup verdict w = codes "{" ++ verdict_members verdict ++ nodes_member setup verdict w ++ codes "}\n"

-- a verdict with its sheet
abbrev pub sheet_line : Verdict → List ℕ → List ℕ
sheet_line verdict sheet = codes "{" ++ verdict_members verdict ++ codes ",\"sheet\":" ++ quoted sheet ++ codes "}\n"

-- a plan: the owners, how many partitions move, and how many could stay
abbrev pub plan_line : TablePlan → List ℕ
plan_line plan = codes "{\"owners\":[" ++ owners_text 44 plan.table ++ codes "],\"moves\":" ++ decimal plan.moves
    ++ codes ",\"bound\":" ++ decimal plan.bound ++ codes "}\n"

-- how a line starts that tells of a row which came at this time
unfoldable pub row_members : List ℕ → ℕ → List ℕ
row_members time row = codes "{\"time\":" ++ quoted time ++ codes ",\"row\":" ++ decimal row ++ codes ","

-- what node i shows with this vector after the row; and for how many more rows there is room after it
abbrev pub change_line : List ℕ → ℕ → ℕ → Vector → List ℕ
change_line time row i v = row_members time row ++ codes "\"node\":" ++ decimal i ++ codes "," ++ place_members v
    ++ task_member v ++ codes "\n"

abbrev pub room_line : List ℕ → ℕ → ℕ → List ℕ
room_line time row room = row_members time row ++ codes "\"room\":" ++ decimal room ++ codes "}\n"
