-- What stands in a page: its ends, the title, the text below the picture, and the rows, each with what it changes.
use Rattle.std.specs.Prelude.{◌≡◌, ℕ, ◌-◌, Bool, true, false, List, [], ◌++◌, ◌==◌, ◌&&◌, Option, Some, None, All}
use Rattle.std.specs.Prelude.{codes, nat_le, not, slice_get, if◌then◌else◌}
use Rattle.std.specs.Fmt.{decimal}
use Rattle.std.specs.List.{flat_map}
use Rattle.std.specs.Str.{chars}
use Rattle.std.specs.Str.Lines.{lines}
use Rattle.bully_calls.specs.declared.call.PendingCall.{PendingCall}
use Rattle.bully_calls.specs.declared.call.Phase.{Phase}
use Rattle.bully_rows.specs.Words.{answer_word, status_word}
use Rattle.bully_trace.specs.declared.verdict.Verdict.{Verdict}
use Rattle.bully_trace.specs.Details.{same_answer, same_call}
use Rattle.bully_film.specs.declared.scene.Change.{Change}
use Rattle.bully_film.specs.declared.scene.Scene.{Scene}
use Rattle.bully_film.specs.declared.snapshot.NodeSnapshot.{NodeSnapshot}
use Rattle.bully_picture.specs.declared.claims.Claims.{Claims}
use Rattle.bully_picture.specs.Drawn.{is_shown, kind_text, said_text}
use Rattle.bully_trace.specs.OneRow.{decides}
use Rattle.bully_picture.specs.Escaping.{escaped}
use Rattle.bully_picture.specs.Title.{Has}
use Rattle.bully_picture.specs.Words.{followed_text, is_same_stand, meaning_text}
use Rattle.bully_page.specs.declared.page.TheConstants.{HEAD, SCRIPT, SEARCH}

abbrev pub page_start : List ℕ
page_start = codes "<!DOCTYPE html>\n"

abbrev pub page_end : List ℕ
page_end = codes "</body>\n</html>\n"

-- the text is one HTML document, with no text before or after it
abbrev pub IsPage : List ℕ → Type 0
IsPage text = (inside : List ℕ) × (text ≡ page_start ++ inside ++ page_end)

-- the title of a window, and the heading
abbrev pub titled : List ℕ → List ℕ
titled title = codes "<title>" ++ title ++ codes "</title>"

abbrev pub headed : List ℕ → List ℕ
headed title = codes "<h1>" ++ title ++ codes "</h1>"

-- a line of the text below
abbrev pub line_text : List ℕ → List ℕ
line_text line = codes "<p class=\"below\">" ++ escaped (chars line) ++ codes "</p>\n"

-- these lines, one after the other
abbrev pub lines_text : List (List ℕ) → List ℕ
lines_text them = flat_map line_text them

-- all lines of a text stand so in this one
abbrev pub HasLines : List ℕ → List ℕ → Type 0
HasLines text below = All (λ line. Has text (line_text line)) (lines below)

-- ---- the line of a row

-- the row that decided stands open
abbrev pub opening : Bool → List ℕ
opening is_decided = if is_decided then codes " class=\"decided\" open" else []

-- the line of a row: its number, what it says, and what it does
abbrev pub summary_text : Bool → Scene → List ℕ
summary_text is_decided s =
    codes "<details id=\"row" ++ decimal s.number ++ codes "\"" ++ opening is_decided
    ++ (codes "><summary><b>" ++ decimal s.number ++ codes "</b> ") ++ said_text s ++ meaning_text is_decided s
    ++ codes "</summary>\n"

-- ---- what it changes

-- how far a call came
abbrev pub phase_text : Phase → List ℕ
phase_text Phase.Sent = codes ", sent"
phase_text (Phase.Ran answer) = codes ", ran: " ++ answer_word answer
phase_text Phase.Failed = codes ", failed"

abbrev pub orphan_text : Bool → List ℕ
orphan_text is_live = if is_live then [] else codes ", an orphan"

-- the call in a slot, and how far it came; or that there is none
abbrev pub slot_text : Option PendingCall → List ℕ
slot_text None = codes "no call"
slot_text (Some held) = kind_text held.call.kind ++ (codes " to " ++ decimal held.call.callee ++ [])
    ++ phase_text held.phase ++ orphan_text held.is_live

-- what is new is bold
abbrev pub bold_start : Bool → List ℕ
bold_start is_new = if is_new then codes "<b>" else []

abbrev pub bold_end : Bool → List ℕ
bold_end is_new = if is_new then codes "</b>" else []

-- how a node stands: its status and its coordinator, and the call in its slot
abbrev pub cell_text : Bool → Bool → NodeSnapshot → List ℕ
cell_text has_new_stand has_new_call node =
    codes " <td>" ++ bold_start has_new_stand
    ++ followed_text (status_word node.status) (codes " under ") node.coordinator ++ bold_end has_new_stand
    ++ codes "<br>" ++ bold_start has_new_call ++ slot_text node.call ++ bold_end has_new_call ++ codes "</td>"

abbrev pub same_phase : Phase → Phase → Bool
same_phase Phase.Sent Phase.Sent = true
same_phase (Phase.Ran a) (Phase.Ran b) = same_answer a b
same_phase Phase.Failed Phase.Failed = true
same_phase _ _ = false

abbrev pub same_live : Bool → Bool → Bool
same_live a b = if a then b else not b

abbrev pub is_same_slot : Option PendingCall → Option PendingCall → Bool
is_same_slot None None = true
is_same_slot None (Some b) = false
is_same_slot (Some a) None = false
is_same_slot (Some a) (Some b) = same_call a.call b.call && same_phase a.phase b.phase && same_live a.is_live b.is_live

-- the name of a node after its number, if it has one: it turns the direction of nothing but itself
abbrev pub name_text : Option (List ℕ) → List ℕ
name_text None = []
name_text (Some name) = codes ": <bdi>" ++ escaped (chars name) ++ codes "</bdi>"

-- a node before a row and after it, with these names of the nodes from node 1 on
abbrev pub change_text : List (List ℕ) → Change → List ℕ
change_text names change =
    (codes "<tr><th>node " ++ decimal change.node ++ []) ++ name_text (slice_get names (change.node - 1))
    ++ codes "</th>" ++ cell_text false false change.before
    ++ cell_text (not (is_same_stand change.before change.after))
    (not (is_same_slot change.before.call change.after.call)) change.after ++ codes "</tr>\n"

-- the other node whose vector the row may change, if there is one
abbrev pub other_text : List (List ℕ) → Scene → List ℕ
other_text names s = if s.other.node == s.own.node then [] else change_text names s.other

-- the node that the row names, and the other one; or that the group, of so many nodes, doesn't have it
abbrev pub changes_text : ℕ → List (List ℕ) → Scene → List ℕ
changes_text nodes names s =
    if nat_le s.own.node nodes then codes "<table>\n<tr><th></th> <th>before</th> <th>after</th></tr>\n"
    ++ change_text names s.own ++ other_text names s ++ codes "</table>\n"
    else codes "<p>The group has no node " ++ decimal s.own.node ++ codes ".</p>\n"

-- ---- what else it does

-- that a Halt stops a procedure
abbrev pub stop_text : Scene → List ℕ
stop_text s = if s.cuts then codes "<p>The Halt stops the procedure of node " ++ decimal s.other.node ++ codes ".</p>\n"
    else []

-- the owners, from partition 0 on
abbrev pub owner_text : ℕ → List ℕ
owner_text owner = codes " " ++ decimal owner ++ []

abbrev pub owners_text : List ℕ → List ℕ
owners_text owners = flat_map owner_text owners

abbrev pub table_text : Option (List ℕ) → List ℕ
table_text None = []
table_text (Some owners) = codes ": the owners are" ++ owners_text owners

-- that a node gets a table
abbrev pub getting_text : Scene → List ℕ
getting_text s =
    if s.gets_table then (codes "<p>Node " ++ decimal s.other.node ++ codes " gets a table") ++ table_text s.table
    ++ codes ".</p>\n" else []

-- the effects of a row that was taken; the row that decided has none
abbrev pub effects_text : Bool → Scene → List ℕ
effects_text is_decided s = if is_decided then [] else stop_text s ++ getting_text s

-- ---- the rows

abbrev pub row_text : Verdict → ℕ → List (List ℕ) → Scene → List ℕ
row_text verdict nodes names s =
    summary_text (decides verdict s.number) s ++ changes_text nodes names s ++ effects_text (decides verdict s.number) s
    ++ codes "</details>\n"

-- the row, if it is shown
abbrev pub shown_row : Claims → Verdict → ℕ → List (List ℕ) → Scene → List ℕ
shown_row claims verdict nodes names s = if is_shown claims verdict s then row_text verdict nodes names s else []

abbrev pub rows_text : Claims → Verdict → ℕ → List (List ℕ) → List Scene → List ℕ
rows_text claims verdict nodes names scenes = flat_map (shown_row claims verdict nodes names) scenes

-- exactly these stand in the page, once and in order
abbrev pub HasRowsOf : List ℕ → Claims → Verdict → ℕ → List (List ℕ) → List Scene → Type 0
HasRowsOf text claims verdict nodes names scenes =
    Has text (codes "<div id=\"rows\">\n" ++ rows_text claims verdict nodes names scenes ++ codes "</div>\n")

-- ---- the whole

-- what stands before the picture: a head, which says how the page looks, and this title, twice: of the window, and as
-- the heading
abbrev pub front_text : List ℕ → List ℕ
front_text title =
    page_start ++ HEAD.now ++ titled title ++ codes "\n</head>\n<body>\n" ++ headed title
    ++ codes "\n<div class=\"picture\">\n"

-- what comes after it: the lines of this text, the search, these rows, and the script of the search
abbrev pub behind_text : List ℕ → List ℕ → List ℕ
behind_text below rows =
    codes "</div>\n" ++ lines_text (lines below) ++ SEARCH.now
    ++ (codes "<div id=\"rows\">\n" ++ rows ++ codes "</div>\n") ++ SCRIPT.now ++ page_end

-- a page of this title, this picture, this text below it, and these rows
abbrev pub page_text : List ℕ → List ℕ → List ℕ → List ℕ → List ℕ
page_text title picture below rows = front_text title ++ picture ++ behind_text below rows
