-- What stands in a picture for a terminal: a line of each row that changes what a node is, with how all nodes stand
-- after it.
use Rattle.std.specs.Prelude.{ℕ, zero, suc, ◌+◌, ◌-◌, ◌/◌, ◌%◌, ◌==◌, ◌||◌, Bool, true, false, List, [], ◌∷◌, ◌++◌}
use Rattle.std.specs.Prelude.{codes, length, max, nat_le, nat_lt, not, replicate, if◌then◌else◌}
use Rattle.std.specs.Fmt.{decimal}
use Rattle.std.specs.List.{flat_map}
use Rattle.bully_base.specs.declared.node.Status.{Status}
use Rattle.bully_base.specs.Places.{put_node}
use Rattle.bully_base.specs.Setup.{Setup}
use Rattle.bully_rows.specs.declared.trace.Row.{Row}
use Rattle.bully_trace.specs.declared.verdict.Verdict.{Verdict}
use Rattle.bully_film.specs.declared.scene.Change.{Change}
use Rattle.bully_film.specs.declared.scene.Scene.{Scene}
use Rattle.bully_film.specs.declared.snapshot.NodeSnapshot.{NodeSnapshot}
use Rattle.bully_film.specs.Behind.{world_behind}
use Rattle.bully_film.specs.Scene.{scene_at, snapshots_of}
use Rattle.bully_trace.specs.OneRow.{decides}
use Rattle.bully_trace.specs.VerdictText.{verdict_head}
use Rattle.bully_picture.specs.declared.columns.Form.{Form}
use Rattle.bully_picture.specs.declared.columns.TheConstants.{CHANGE}
use Rattle.bully_picture.specs.Drawn.{bare_text}
use Rattle.bully_picture.specs.Title.{shown_text}
use Rattle.bully_picture.specs.Words.{followed_text, is_same_stand, meaning_text}
use Rattle.bully_picture.specs.Written.{right_text}

-- a row, and how the nodes stand after it, from node 1 on
pub record Told : Type 0 where
  pub scene : Scene
  pub nodes : List NodeSnapshot

-- rows after these first rows of a trace
abbrev pub told_from : Setup → List Row → List Row → List Told
told_from setup before [] = []
told_from setup before (row ∷ rows) =
    record {
      scene = scene_at setup before row;
      nodes = snapshots_of (world_behind setup (before ++ row ∷ [])) 1 setup.nodes;
    } ∷ told_from setup (before ++ row ∷ []) rows

-- the row decided, or it changes a status or a coordinator
abbrev pub is_told : Verdict → Scene → Bool
is_told verdict s = decides verdict s.number || not (is_same_stand s.other.before s.other.after)

-- ---- the columns

-- how they look for so many nodes
abbrev pub form_of : ℕ → Form
form_of nodes = if nat_le nodes 6 then Form.Words else
    (if nat_le nodes 20 then Form.Short else (if nat_le nodes 100 then Form.Letters else Form.Changes))

-- how wide one is
abbrev pub column_of : Form → ℕ
column_of Form.Words = 9
column_of Form.Short = 4
column_of Form.Letters = 1
column_of Form.Changes = 0

-- a status as a word, and as a letter
abbrev pub column_word : Status → List ℕ
column_word Status.Down = codes "-"
column_word Status.Election = codes "elect"
column_word Status.Reorganization = codes "reorg"
column_word Status.Normal = codes "norm"

abbrev pub column_letter : Status → List ℕ
column_letter Status.Down = codes "-"
column_letter Status.Election = codes "E"
column_letter Status.Reorganization = codes "R"
column_letter Status.Normal = codes "N"

-- a text with spaces after it, one at least, so that it takes a column that is so wide
abbrev pub filled : ℕ → List ℕ → List ℕ
filled width text = text ++ replicate (max 1 (width - length text)) 32

-- how a node stands in its column
abbrev pub cell_text : Form → NodeSnapshot → List ℕ
cell_text Form.Words node =
    filled (column_of Form.Words) (followed_text (column_word node.status) (codes " ") node.coordinator)
cell_text Form.Short node =
    filled (column_of Form.Short) (followed_text (column_letter node.status) (codes "") node.coordinator)
cell_text Form.Letters node = column_letter node.status
cell_text Form.Changes node = []

abbrev pub cells_text : Form → List NodeSnapshot → List ℕ
cells_text form nodes = flat_map (cell_text form) nodes

-- how a node stands after a row, if the group has it
abbrev pub change_words : ℕ → Change → List ℕ
change_words nodes change =
    if nat_le change.node nodes then (codes "  " ++ decimal change.node ++ codes ": ")
    ++ followed_text (column_word change.after.status) (codes " ") change.after.coordinator else []

-- what comes after the columns, where these have no room for it
abbrev pub tells_change : Form → Bool
tells_change Form.Words = false
tells_change Form.Short = false
tells_change Form.Letters = true
tells_change Form.Changes = true

abbrev pub change_text : Form → ℕ → Change → List ℕ
change_text form nodes change = if tells_change form then filled CHANGE (change_words nodes change) else []

-- ---- the lines

-- the line of a row, after the line feed of the one before it: its number, each node in its column, what the row says,
-- and what it does
abbrev pub told_line : ℕ → Bool → Told → List ℕ
told_line nodes is_decided told =
    codes "\n" ++ right_text told.scene.number ++ codes "  " ++ cells_text (form_of nodes) told.nodes
    ++ change_text (form_of nodes) nodes told.scene.other
    ++ bare_text told.scene.event_kind told.scene.own.node ++ meaning_text is_decided told.scene

-- how many rows lie between, if any do
abbrev pub quiet_text : ℕ → List ℕ
quiet_text rows = if rows == 1 then codes "\n    ... 1 row" else
    (if nat_lt 1 rows then codes "\n    ... " ++ decimal rows ++ codes " rows" else [])

-- the lines of rows, after so many that have none: of those that are told, and how many lie between
abbrev pub told_text : Verdict → ℕ → ℕ → List Told → List ℕ
told_text verdict nodes quiet [] = quiet_text quiet
told_text verdict nodes quiet (told ∷ rows) =
    if is_told verdict told.scene then quiet_text quiet ++ told_line nodes (decides verdict told.scene.number) told
    ++ told_text verdict nodes 0 rows
    else told_text verdict nodes (quiet + 1) rows

-- ---- the heads of the columns

-- what stands before them: what the letters mean, if there are any, and the head of the row's number
abbrev pub front_text : Form → List ℕ
front_text Form.Words = codes "    row  "
front_text Form.Short = codes "- down, E election, R reorganization, N normal\n    row  "
front_text Form.Letters = codes "- down, E election, R reorganization, N normal\n    row  "
front_text Form.Changes = codes "    row  "

-- after them: the head of what the row changes, if that comes after them, and of what it says
abbrev pub back_text : Form → List ℕ
back_text Form.Words = codes "what it says"
back_text Form.Short = codes "what it says"
back_text Form.Letters = codes "  changes       what it says"
back_text Form.Changes = codes "  changes       what it says"

-- that of a node: its number; of a column of one letter a mark, with the tens at each tenth
abbrev pub name_text : Form → ℕ → List ℕ
name_text Form.Words i = filled (column_of Form.Words) (decimal i)
name_text Form.Short i = filled (column_of Form.Short) (decimal i)
name_text Form.Letters i = if i % 10 == 0 then decimal (i / 10 % 10) else codes "."
name_text Form.Changes i = []

-- those of the first n nodes
abbrev pub names_text : Form → ℕ → List ℕ
names_text form zero = []
names_text form (suc n) = names_text form n ++ name_text form (n + 1)

abbrev pub heads_text : ℕ → List ℕ
heads_text nodes = front_text (form_of nodes) ++ names_text (form_of nodes) nodes ++ back_text (form_of nodes)

-- ---- the picture

-- the line that says which rows are shown: so many after this one
abbrev pub shown_line : ℕ → ℕ → List ℕ
shown_line before count = shown_text before count ++ codes "\n"

-- above the text below: the verdict, which rows are shown, the heads of the columns, and the lines of the rows
abbrev pub columns_text : Verdict → ℕ → ℕ → ℕ → List Told → List ℕ
columns_text verdict nodes before count rows =
    verdict_head verdict ++ shown_line before count
    ++ (heads_text nodes ++ told_text verdict nodes 0 rows ++ codes "\n")

-- ---- how the nodes stand after each row, out of what the rows show

-- the nodes after a row, before which they stand so
abbrev pub stood : List NodeSnapshot → Scene → List NodeSnapshot
stood nodes s = put_node (put_node nodes s.other.node s.other.after) s.own.node s.own.after

-- these rows, before which they stand so
abbrev pub told_behind : List NodeSnapshot → List Scene → List Told
told_behind nodes [] = []
told_behind nodes (s ∷ scenes) = record { scene = s; nodes = stood nodes s } ∷ told_behind (stood nodes s) scenes
