-- A trace with everything said: of each call what it is and what was answered, and after each event the vector that it
-- changed.
use Rattle.std.specs.Prelude.{ℕ, Bool, List, [], ◌∷◌, ◌++◌, Option, Some, None, ◌&&◌, if◌then◌else◌}
use Rattle.bully_base.specs.NodeSetEq.{same_set}
use Rattle.bully_base.specs.Setup.{Setup}
use Rattle.bully_handlers.specs.Vector.{Vector}
use Rattle.bully_rows.specs.declared.detail.DetailedEvent.{DetailedEvent}
use Rattle.bully_rows.specs.declared.header.Version.{Version}
use Rattle.bully_rows.specs.declared.trace.Row.{Row}
use Rattle.bully_rows.specs.EventsTold.{event_of_detailed}
use Rattle.bully_trace.specs.Details.{said_of, same_status, same_task}
use Rattle.bully_rows.specs.Trace.{Trace}
use Rattle.bully_rows.specs.Whole.{whole_of}
use Rattle.bully_calls.specs.declared.event.Event.{Event}
use Rattle.bully_world.specs.Place.{place_of}
use Rattle.bully_world.specs.StepOf.{step_of}
use Rattle.bully_world.specs.Turn.{same_node}
use Rattle.bully_world.specs.World.{World, first_world, vector}

-- the row of an event with all that there is to say of it
abbrev pub said_row : Event → Option DetailedEvent → Row
said_row e None = Row.Event e
said_row e (Some detailed) = Row.Detailed detailed

abbrev pub same_vector : Vector → Vector → Bool
same_vector a b =
    same_status a.status b.status && same_node a.coordinator b.coordinator && same_node a.halter b.halter
    && same_set a.up b.up && same_task a.task b.task

-- all of a node's vector
abbrev pub shown_row : World → ℕ → Row
shown_row w i = Row.Whole (whole_of i (vector w i))

-- the vector of a node after a step, where it isn't the one before it
abbrev pub shown_unless : Bool → World → ℕ → List Row
shown_unless same w i = if same then [] else shown_row w i ∷ []

abbrev pub shown_change : World → World → ℕ → List Row
shown_change w w' i = shown_unless (same_vector (vector w i) (vector w' i)) w' i

-- the rows of an event that leads from w to w'
abbrev pub event_rows : Setup → World → Event → World → List Row
event_rows setup w e w' = said_row e (said_of setup w e) ∷ shown_change w w' (place_of w e)

-- rows that start in this world, with everything said, up to an event that isn't possible
abbrev pub rows_said : Setup → World → List Row → List Row
rows_said setup w [] = []
rows_said setup w (Row.Event e ∷ rows) = elim (step_of setup w e) [
  | None ↦ []
  | Some r ↦ event_rows setup w e r.0 ++ rows_said setup r.0 rows
]
rows_said setup w (Row.Detailed detailed ∷ rows) = elim (step_of setup w (event_of_detailed detailed)) [
  | None ↦ []
  | Some r ↦ event_rows setup w (event_of_detailed detailed) r.0 ++ rows_said setup r.0 rows
]
rows_said setup w (Row.Claim claim ∷ rows) = shown_row w claim.node ∷ rows_said setup w rows
rows_said setup w (Row.Whole whole ∷ rows) = shown_row w whole.claim.node ∷ rows_said setup w rows

-- the trace of version 3 with everything said
abbrev pub annotated : Trace → Trace
annotated trace = record {
  version = Version.Three;
  setup = trace.setup;
  rows = rows_said trace.setup (first_world trace.setup) trace.rows;
}
