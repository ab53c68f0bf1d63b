-- The lines that tell of a trace that grows.
use Rattle.std.specs.Prelude.{ℕ, ◌-◌, ◌%◌, Bool, ◌==◌, ◌&&◌, List, [], ◌++◌, Option, Some, None, codes, nat_le}
use Rattle.std.specs.Prelude.{if◌then◌else◌}
use Rattle.std.specs.Fmt.{decimal}
use Rattle.std.specs.Io.KnownBytes.{Appends}
use Rattle.bully_base.specs.Setup.{Setup}
use Rattle.bully_handlers.specs.Vector.{Vector}
use Rattle.bully_world.specs.State.{world_of}
use Rattle.bully_world.specs.World.{World, vector}
use Rattle.bully_rows.specs.TraceText.{node_text, task_text}
use Rattle.bully_rows.specs.Words.{status_word}
use Rattle.bully_json.specs.Objects.{change_line, room_line}
use Rattle.bully_follow.specs.declared.changes.Changed.{Changed}
use Rattle.bully_follow.specs.declared.lines.Telling.{Telling}
use Rattle.bully_follow.specs.declared.followed.Followed.{Followed}

-- what a node shows with this vector; a dash for none
unfoldable pub vector_words : Vector → List ℕ
vector_words v =
    status_word v.status ++ codes " " ++ node_text v.coordinator ++ codes " " ++ task_text 44 v.task ++ codes "\n"

-- what node i shows after the row that came at this time
abbrev pub change_words : List ℕ → ℕ → ℕ → Vector → List ℕ
change_words time row i v =
    time ++ codes " row " ++ decimal row ++ codes " node " ++ decimal i ++ codes " " ++ vector_words v

abbrev pub change_told : Telling → List ℕ → ℕ → ℕ → Vector → List ℕ
change_told Telling.Words time row i v = change_words time row i v
change_told Telling.Json time row i v = change_line time row i v

-- the line of a node, if there is one and the group has it
abbrev pub node_told : Telling → List ℕ → ℕ → Setup → World → Option ℕ → List ℕ
node_told telling time row setup w None = []
node_told telling time row setup w (Some i) = if nat_le i setup.nodes then change_told telling time row i (vector w i)
    else []

-- a line for each node that changed
abbrev pub changed_told : Telling → List ℕ → ℕ → Setup → World → Changed → List ℕ
changed_told telling time row setup w changed =
    node_told telling time row setup w changed.named ++ node_told telling time row setup w changed.callee

-- for how many more rows there is room after the row
abbrev pub room_told : Telling → List ℕ → ℕ → ℕ → List ℕ
room_told Telling.Words time row room =
    time ++ codes " row " ++ decimal row ++ codes " room for " ++ decimal room ++ codes " rows\n"
room_told Telling.Json time row room = room_line time row room

-- from row 900,000 on that is told every 10,000 rows
abbrev pub tells_room : ℕ → Bool
tells_room row = nat_le 900000 row && (row % 10000 == 0)

abbrev pub room_behind : Telling → List ℕ → ℕ → List ℕ
room_behind telling time row = if tells_room row then room_told telling time row (1000001 - row) else []

-- what is told after the row that came at this time
abbrev pub row_told : Telling → List ℕ → ℕ → Followed → List ℕ
row_told telling time row followed =
    changed_told telling time row followed.account.judge.world.setup
    (world_of followed.account.judge.world) followed.changed ++ room_behind telling time row

abbrev pub IsRowTold : Telling → ℕ → Followed → Option (List ℕ) → Option (List ℕ) → Type 0
IsRowTold telling row followed output output' =
    (time : List ℕ) × Appends output output' (row_told telling time row followed)
