-- What is remembered of a node's rows, and what one more row makes of it.
use Rattle.std.specs.Prelude.{ℕ, ◌-◌, ◌+◌, ◌==◌, ◌&&◌, Bool, not, List, [], ◌∷◌, ◌++◌, Option, Some, None, drop, length}
use Rattle.std.specs.Prelude.{if◌then◌else◌}
use Rattle.bully_calls.specs.declared.call.Call.{Call}
use Rattle.bully_calls.specs.declared.event.Event.{Event}
use Rattle.bully_calls.specs.declared.kind.EventKind.{EventKind}
use Rattle.bully_calls.specs.declared.kind.NodeEventKind.{NodeEventKind}
use Rattle.bully_calls.specs.Events.{kind_of, node_of}
use Rattle.bully_world.specs.Cause.{is_idle}
use Rattle.bully_world.specs.Place.{call_at}
use Rattle.bully_world.specs.State.{is_halt}
use Rattle.bully_world.specs.World.{World, point}
use Rattle.bully_account.specs.declared.TheConstants.{ROWS_KEPT}
use Rattle.bully_account.specs.declared.memory.Note.{Note}
use Rattle.bully_account.specs.declared.memory.What.{What}
use Rattle.bully_account.specs.declared.moving.Moves.{Moves}

-- the last rows, in their order; the row in which the node's last call was started; the table of its last plan, and of
-- how many partitions one fits in
pub record Remembered : Type 0 where
  pub notes : List Note
  pub started : Option ℕ
  pub planned : Option (List ℕ)
  pub room : ℕ

-- before any row, with room for a table of so many partitions
abbrev pub nothing_yet : ℕ → Remembered
nothing_yet room = record { notes = []; started = None; planned = None; room = room }

-- the last of the notes, as many as are kept
abbrev pub last_notes : List Note → List Note
last_notes notes = drop (length notes - ROWS_KEPT) notes

-- one more note, and no more than are kept
abbrev pub noted : List Note → Note → List Note
noted notes note = last_notes (notes ++ note ∷ [])

-- ---- one more row, of node i, in what is remembered of node j

abbrev pub with_note : ℕ → Note → ℕ → Remembered → Remembered
with_note i note j m = if j == i then record m { notes = noted m.notes note } else m

abbrev pub with_start : ℕ → ℕ → ℕ → Remembered → Remembered
with_start i row j m = if j == i then record m { started = Some row } else m

abbrev pub with_plan : ℕ → List ℕ → ℕ → Remembered → Remembered
with_plan i table j m = if (j == i) && (length table == m.room) then record m { planned = Some table } else m

-- the call of the caller ran in this row: of a Halt its callee has a note
abbrev pub with_halt : ℕ → Option Call → ℕ → Bool → ℕ → Remembered → Remembered
with_halt caller None row moved j m = m
with_halt caller (Some call) row moved j m =
    if is_halt call.kind
    then with_note call.callee (record { row = row; what = What.HaltedBy caller; moved = moved }) j m else m

abbrev pub started_or : Option Call → What
started_or None = What.Did (EventKind.Node NodeEventKind.Start)
started_or (Some call) = What.Started call

-- what the event did to its node, in whose slot this call is after it
abbrev pub what_with : Event → Option Call → What
what_with (Event.Start i) call = started_or call
what_with e call = What.Did (kind_of e)

-- whether node i is at another point, where that is told, or else if it isn't idle now
abbrev pub moved_by : Option Bool → World → ℕ → Bool
moved_by None w i = not (is_idle (point w i))
moved_by (Some moved) w i = moved

abbrev pub own_note : World → Event → ℕ → Moves → Note
own_note w e row moves =
    record { row = row; what = what_with e (call_at w (node_of e)); moved = moved_by moves.own w (node_of e) }

abbrev pub with_own : World → Event → ℕ → Moves → ℕ → Remembered → Remembered
with_own w e row moves j m = with_note (node_of e) (own_note w e row moves) j m

-- what the event of this row, which led to this world, changes beside its note; cuts: whether it cuts a procedure off
abbrev pub with_more : World → Event → ℕ → Bool → ℕ → Remembered → Remembered
with_more w (Event.Start i) row cuts j m = with_start i row j m
with_more w (Event.Run i) row cuts j m = with_halt i (call_at w i) row cuts j m
with_more w (Event.Plan i table) row cuts j m = with_plan i table j m
with_more w e row cuts j m = m

-- and with its note
abbrev pub behind_event : World → Event → ℕ → Moves → ℕ → Remembered → Remembered
behind_event w e row moves j m = with_more w e row moves.callee j (with_own w e row moves j m)

-- the same of the nodes from node i on, in rising order
abbrev pub each_from : ℕ → (ℕ → Remembered → Remembered) → List Remembered → List Remembered
each_from i f [] = []
each_from i f (m ∷ memories) = f i m ∷ each_from (i + 1) f memories
