-- What stands in a picture of what a film shows: the number and the text of each row that is shown, the name of each
-- node, an arrow of each call, and the text below.
use Rattle.std.specs.Prelude.{◌≡◌, ℕ, ◌+◌, ◌-◌, ◌<◌, ◌≤◌, Bool, true, false, List, [], ◌∷◌, ◌++◌, Option, Some, None}
use Rattle.std.specs.Prelude.{All, codes, filter, get_or, is_some, map, not, ◌||◌, ◌&&◌, if◌then◌else◌}
use Rattle.std.specs.Fmt.{decimal}
use Rattle.std.specs.List.{join_with_byte}
use Rattle.std.specs.Str.{chars}
use Rattle.std.specs.Str.Lines.{lines}
use Rattle.bully_calls.specs.declared.call.Call.{Call}
use Rattle.bully_calls.specs.declared.call.CallKind.{CallKind}
use Rattle.bully_calls.specs.declared.call.CallKind.TheVariants.{AreYouUp, AreYouNormal, Halt, NewCoordinator, Ready}
use Rattle.bully_calls.specs.declared.call.Phase.{Phase}
use Rattle.bully_calls.specs.declared.kind.EventKind.{EventKind}
use Rattle.bully_calls.specs.Events.{word_of}
use Rattle.bully_trace.specs.declared.verdict.Verdict.{Verdict}
use Rattle.bully_trace.specs.OneRow.{decides}
use Rattle.bully_rows.specs.TraceText.{row_fields}
use Rattle.bully_film.specs.declared.scene.Scene.{Scene}
use Rattle.bully_film.specs.declared.slots.HeldCall.{HeldCall}
use Rattle.bully_film.specs.declared.snapshot.NodeSnapshot.{NodeSnapshot}
use Rattle.bully_film.specs.declared.whole.Lane.{Lane}
use Rattle.bully_film.specs.Lane.{Holding, held_in}
use Rattle.bully_picture.specs.declared.claims.Claims.{Claims}
use Rattle.bully_picture.specs.Escaping.{cut_text, escaped}
use Rattle.bully_picture.specs.Title.{Has}
use Rattle.bully_picture.specs.Words.{meaning_text}

-- the call as the profile names it
abbrev pub kind_text : CallKind → List ℕ
kind_text AreYouUp = codes "AreYouUp"
kind_text AreYouNormal = codes "AreYouNormal"
kind_text Halt = codes "Halt"
kind_text NewCoordinator = codes "NewCoordinator"
kind_text Ready = codes "Ready"

-- the row has a line: it is no claim, or claims are shown, or it decided
abbrev pub is_shown : Claims → Verdict → Scene → Bool
is_shown Claims.Shown verdict s = true
is_shown Claims.LeftOut verdict s = is_some s.event_kind || decides verdict s.number

abbrev pub scenes_shown : Claims → Verdict → List Scene → List Scene
scenes_shown claims verdict scenes = filter (is_shown claims verdict) scenes

-- what stands in red where it is of the row that decided, and else in this colour
abbrev pub colour_of : Bool → List ℕ → List ℕ
colour_of is_decided plain = if is_decided then codes "#D55E00" else plain

-- the number of a row at the left, at this height
abbrev pub number_text : ℕ → Bool → ℕ → List ℕ
number_text y is_decided row =
    (codes "<text x=\"48\" y=\"" ++ decimal y ++ codes "\" font-size=\"10\" text-anchor=\"end\" fill=\"")
    ++ colour_of is_decided (codes "#777")
    ++ (codes "\">" ++ decimal row ++ codes "</text>\n")

-- the text is the numbers of these rows, one after the other
abbrev pub AreNumbers : Verdict → List Scene → List ℕ → Type 0
AreNumbers verdict [] text = text ≡ []
AreNumbers verdict (s ∷ scenes) text =
    (y : ℕ) × (rest : List ℕ) × (text ≡ number_text y (decides verdict s.number) s.number ++ rest)
    × AreNumbers verdict scenes rest

-- the word and the node of a row
abbrev pub row_word : Option EventKind → List ℕ
row_word None = codes "saw"
row_word (Some kind) = word_of kind

abbrev pub is_plan : Option EventKind → Bool
is_plan (Some EventKind.Plan) = true
is_plan _ = false

abbrev pub bare_text : Option EventKind → ℕ → List ℕ
bare_text event_kind i = row_word event_kind ++ (codes "," ++ decimal i ++ [])

-- the row as a line of the trace has it
abbrev pub said_text : Scene → List ℕ
said_text s = elim s.said as (λ _.
    List ℕ) [ None ↦ bare_text s.event_kind s.own.node | Some row ↦ join_with_byte 44 (row_fields row) ]

-- who gets a table that has no room at the lane: it comes after these words where it is shown
abbrev pub getting_text : Scene → List ℕ
getting_text s =
    if is_some s.table && is_plan s.event_kind then codes ":"
    else (codes ": " ++ decimal s.other.node ++ codes " ") ++ (if is_some s.table then codes "gets" else
    codes "gets a table")

-- what comes after what a row says: what it does, or, without room at the lane, who gets a table; nothing of the row
-- that decided
abbrev pub tail_text : Bool → Bool → Scene → List ℕ
tail_text has_room is_decided s = if not is_decided && s.gets_table && not has_room then getting_text s else
    meaning_text is_decided s

-- the row's text at the right of its line, with as many letters at most, and what comes after it
abbrev pub HasText : List ℕ → Bool → Scene → Type 0
HasText text is_decided s =
    (letters : ℕ) × (has_room : Bool)
    × Has text (codes " fill=\"" ++ colour_of is_decided (codes "#555") ++ codes "\">" ++ cut_text letters (said_text s)
    ++ tail_text has_room is_decided s ++ codes "</text>\n")

-- a node over its lane: all of its name, for where the pointer rests; or its number, where it has none, after a word
-- in wide lanes
abbrev pub node_label : Bool → ℕ → Option (List ℕ) → List ℕ
node_label is_wide i (Some name) =
    codes "<title>node " ++ decimal i ++ codes ": " ++ escaped (chars name) ++ codes "</title></text>\n"
node_label is_wide i None =
    codes " unicode-bidi=\"isolate\">" ++ (if is_wide then codes "node " else []) ++ decimal i ++ codes "</text>\n"

-- the arrow of a call of node i, which its slot holds after these rows
abbrev pub arrow_label : ℕ → Call → ℕ → ℕ → List ℕ
arrow_label i call first last =
    codes "<title>node " ++ decimal i ++ codes ": " ++ kind_text call.kind ++ codes " to " ++ decimal call.callee
    ++ codes ", in its slot after rows " ++ decimal first ++ codes " to " ++ decimal last ++ codes "</title></line>\n"

abbrev pub has_failed : Phase → Bool
has_failed Phase.Failed = true
has_failed _ = false

-- of what the slot of node i holds after these rows: the arrow of a call that was sent, or ran; nothing of one that
-- failed
abbrev pub held_label : ℕ → ℕ → ℕ → Option HeldCall → List ℕ
held_label i first last None = []
held_label i first last (Some held) = if has_failed held.phase then [] else arrow_label i held.call first last

-- these rows have their numbers, and no other one has its between them
abbrev pub HasRows : List ℕ → Verdict → List Scene → Type 0
HasRows text verdict scenes = (numbers : List ℕ) × Has text numbers × AreNumbers verdict scenes numbers

-- all of these rows have their texts
abbrev pub HasSaid : List ℕ → Verdict → List Scene → Type 0
HasSaid text verdict scenes = All (λ s. HasText text (decides verdict s.number) s) scenes

-- so many nodes, from node 1 on, have their names here, or their numbers, all of one kind
abbrev pub HasNodes : List ℕ → ℕ → (ℕ → Option (List ℕ)) → Type 0
HasNodes text nodes name_at =
    (is_wide : Bool) × ((i : ℕ) → i < nodes → Has text (node_label is_wide (i + 1) (name_at i)))

-- all stretches of the slot of node i have their arrows
abbrev pub HasHoldings : List ℕ → ℕ → List Holding → Type 0
HasHoldings text i holdings = All (λ h. Has text (held_label i h.first h.last h.seen)) holdings

-- so do those of all lanes
abbrev pub HasLanes : List ℕ → List Lane → Type 0
HasLanes text lanes = All (λ lane. HasHoldings text lane.node lane.holdings.items) lanes

-- after this row a slot holds this, where that is what it holds after each row from the first on
abbrev pub Holds : ℕ → List (Option HeldCall) → HeldCall → ℕ → Type 0
Holds first helds held row = (first ≤ row) × (get_or helds (row - first) None ≡ Some held)

-- the text has an arrow of what the slot of node i holds after this row. It goes from one row to another around this
-- one, and after each of those the slot holds the same
pub record HasArrow (text : List ℕ) (i first : ℕ) (helds : List (Option HeldCall)) (held : HeldCall)
    (row : ℕ) : Type 0 where
  pub from : ℕ
  pub to : ℕ
  pub around : (from ≤ row) × (row ≤ to)
  pub holds : (other : ℕ) → from ≤ other → other ≤ to → Holds first helds held other
  pub arrow : Has text (arrow_label i held.call from to)

-- each call has its that the slot of node i holds after a row from the first on, and that was sent, or ran
abbrev pub HasArrows : List ℕ → ℕ → ℕ → List (Option HeldCall) → Type 0
HasArrows text i first helds = (held : HeldCall) (row : ℕ) → Holds first helds held row → has_failed held.phase ≡ false
    → HasArrow text i first helds held row

-- each of so many nodes, from node 1 on, stood so after each row from the first on: its calls have their arrows
abbrev pub HasCalls : List ℕ → ℕ → ℕ → (ℕ → List NodeSnapshot) → Type 0
HasCalls text nodes first snapshots = (i : ℕ) → 0 < i → i ≤ nodes → HasArrows text i first (map held_in (snapshots i))

-- a line of the text below: so many of its letters, and, where it has more bytes, all of it for where the pointer rests
abbrev pub below_label : ℕ → List ℕ → List ℕ
below_label letters line = codes " xml:space=\"preserve\">" ++ cut_text letters line ++ codes "</text>\n"

-- all lines of a text stand so in this one, each with as many letters at most
abbrev pub HasBelow : List ℕ → List ℕ → Type 0
HasBelow text below = (letters : ℕ) × All (λ line. Has text (below_label letters line)) (lines below)
