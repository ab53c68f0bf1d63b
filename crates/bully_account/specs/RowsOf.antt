-- Which rows of a trace are remembered of a node: the last ones that did something to it.
use Rattle.std.specs.Prelude.{◌≡◌, ◌≢◌, ◌↔◌, ℕ, ◌+◌, ◌≤◌, ◌==◌, ◌&&◌, true, List, [], ◌∷◌, ◌++◌, Option, Some, None}
use Rattle.std.specs.Prelude.{length, map, All, ⊤, MatchOption, if◌then◌else◌}
use Rattle.bully_base.specs.Setup.{Setup}
use Rattle.bully_calls.specs.declared.call.Call.{Call}
use Rattle.bully_calls.specs.declared.event.Event.{Event}
use Rattle.bully_calls.specs.Events.{kind_of, node_of}
use Rattle.bully_world.specs.State.{is_halt}
use Rattle.bully_world.specs.World.{World, first_world, point}
use Rattle.bully_rows.specs.declared.trace.Row.{Row}
use Rattle.bully_rows.specs.EventsTold.{event_of_detailed}
use Rattle.bully_trace.specs.declared.verdict.Verdict.{Verdict}
use Rattle.bully_trace.specs.Details.{call_at}
use Rattle.bully_trace.specs.Verdict.{IsJudged}
use Rattle.bully_account.specs.declared.memory.Note.{Note}
use Rattle.bully_account.specs.declared.memory.What.{What}
use Rattle.bully_account.specs.Remembered.{Remembered, last_notes}

-- among these rows, of which the first has number 2, this one has this number
pub record IsRowAt (rows : List Row) (number : ℕ) (row : Row) : Type 0 where
  pub before : List Row
  pub behind : List Row
  pub all : rows ≡ before ++ (row ∷ behind)
  pub place : length before + 2 ≡ number

-- the event that a row tells; a claim tells none
abbrev pub event_in : Row → Option Event
event_in (Row.Event e) = Some e
event_in (Row.Detailed e) = Some (event_of_detailed e)
event_in (Row.Claim claim) = None
event_in (Row.Whole whole) = None

-- the row of this number tells this event
abbrev pub IsEventAt : List Row → ℕ → Event → Type 0
IsEventAt rows number e = (row : Row) × IsRowAt rows number row × (event_in row ≡ Some e)

-- none of these rows decides, and they lead from the first world to this one
abbrev pub IsBehind : Setup → List Row → World → Type 0
IsBehind setup rows w = (count : ℕ) × IsJudged setup (first_world setup) 0 2 rows (Verdict.Lawful count) w

-- ---- what an event did to a node, w is the world after it

abbrev pub started_as : Option Call → List What
started_as None = []
started_as (Some call) = What.Started call ∷ []

-- to its own node: of a start which call that left in the slot, and else what the event is
abbrev pub own_deed : World → Event → List What
own_deed w (Event.Start i) = started_as (call_at w i)
own_deed w e = What.Did (kind_of e) ∷ []

abbrev pub halted_by : ℕ → ℕ → Option Call → List What
halted_by i caller None = []
halted_by i caller (Some call) = if is_halt call.kind && (i == call.callee) then What.HaltedBy caller ∷ [] else []

-- to node i, if it is the callee of a Halt that ran
abbrev pub halt_deed : World → ℕ → Event → List What
halt_deed w i (Event.Run caller) = halted_by i caller (call_at w caller)
halt_deed w i e = []

-- all that it did to node i
abbrev pub deeds : World → ℕ → Event → List What
deeds w i e = (if i == node_of e then own_deed w e else []) ++ halt_deed w i e

-- ---- the notes of rows

abbrev pub what_in : Note → What
what_in note = note.what

-- the note is of the row of this number, which led from v to w, and has moved exactly if node i's point is another one
-- after it
pub record IsNoteOf (v w : World) (number i : ℕ) (note : Note) : Type 0 where
  pub row : note.row ≡ number
  pub moved : (note.moved ≡ true) ↔ (point w i ≢ point v i)

-- the notes say what the event of the row of this number did to node i, each thing once
pub record AreNotesOf (v w : World) (number i : ℕ) (e : Event) (notes : List Note) : Type 0 where
  pub what : map what_in notes ≡ deeds w i e
  pub each : All (IsNoteOf v w number i) notes

-- of the event of a row after these
abbrev pub AreNotesBehind : Setup → ℕ → List Row → Row → List Note → Event → Type 0
AreNotesBehind setup i before row notes e =
    (v : World) × (w : World) × IsBehind setup before v × IsBehind setup (before ++ row ∷ []) w
    × AreNotesOf v w (length before + 2) i e notes

-- of a row after these; none of a claim
abbrev pub AreNotesAt : Setup → ℕ → List Row → Row → List Note → Type 0
AreNotesAt setup i before row notes = MatchOption (event_in row) (notes ≡ []) (AreNotesBehind setup i before row notes)

-- of all rows after these, in their order
abbrev pub AreNotesFrom : Setup → ℕ → List Row → List Row → List Note → Type 0
AreNotesFrom setup i before [] notes = notes ≡ []
AreNotesFrom setup i before (row ∷ rows) notes =
    (here : List Note) × (others : List Note) × (notes ≡ here ++ others) × AreNotesAt setup i before row here
    × AreNotesFrom setup i (before ++ row ∷ []) rows others

-- ---- what is remembered

-- the row of this number is the last start of node i; none where no row is one
abbrev pub IsLastStart : List Row → ℕ → Option ℕ → Type 0
IsLastStart rows i started =
    MatchOption started
    ((number : ℕ) → IsEventAt rows number (Event.Start i) → ⊥)
    (λ last. IsEventAt rows last (Event.Start i)
    × ((number : ℕ) → IsEventAt rows number (Event.Start i) → number ≤ last))

-- the table is that of the last plan of node i; none where no row is one
abbrev pub IsLastPlan : List Row → ℕ → Option (List ℕ) → Type 0
IsLastPlan rows i planned =
    MatchOption planned
    ((number : ℕ) (table : List ℕ) → IsEventAt rows number (Event.Plan i table) → ⊥)
    (λ table. (last : ℕ) × IsEventAt rows last (Event.Plan i table)
    × ((number : ℕ) (other : List ℕ) → IsEventAt rows number (Event.Plan i other) → number ≤ last))

-- what is remembered of node i after these rows, none of which decides: exactly the last of all its notes, in their
-- order, the row of its last start, and the table of its last plan
pub record IsRemembered (setup : Setup) (rows : List Row) (i : ℕ) (memory : Remembered) : Type 0 where
  pub all : List Note
  pub are : AreNotesFrom setup i [] rows all
  pub notes : memory.notes ≡ last_notes all
  pub started : IsLastStart rows i memory.started
  pub planned : IsLastPlan rows i memory.planned
  pub room : memory.room ≡ setup.partitions

-- the same of the nodes from node i on, in rising order
abbrev pub AreRemembered : Setup → List Row → ℕ → List Remembered → Type 0
AreRemembered setup rows i [] = ⊤
AreRemembered setup rows i (memory ∷ memories) =
    IsRemembered setup rows i memory × AreRemembered setup rows (i + 1) memories
