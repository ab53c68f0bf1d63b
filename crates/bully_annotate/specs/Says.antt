-- What is written of one row, and what follows of those after it.
use Rattle.std.specs.Prelude.{◌≡◌, ℕ, ◌+◌, ◌<◌, ◌≤◌, ◌++◌, Bool, true, false, [], ◌∷◌, List, Option, length}
use Rattle.std.specs.Io.KnownBytes.{Appends}
use Rattle.bully_rows.specs.declared.TheConstants.{ROWS_MAX}
use Rattle.bully_base.specs.Setup.{IsNode}
use Rattle.bully_calls.specs.declared.call.Answer.{Answer}
use Rattle.bully_calls.specs.declared.event.Event.{Event}
use Rattle.bully_world.specs.Step.{Step}
use Rattle.bully_rows.specs.declared.trace.Row.{Row}
use Rattle.bully_trace.specs.declared.verdict.Verdict.{Verdict}
use Rattle.bully_rows.specs.Trace.{Trace}
use Rattle.bully_rows.specs.TraceText.{rows_text, trace_text}
use Rattle.bully_trace.specs.Verdict.{IsJudged}
use Rattle.bully_world.specs.State.{WorldState, world_of}
use Rattle.bully_world.specs.World.{World}
use Rattle.bully_annotate.specs.Annotated.{annotated, event_rows, rows_said, shown_row}

-- these rows are lawful from this world on
abbrev pub IsLawfulFrom : WorldState → ℕ → List Row → ℕ → World → Type 0
IsLawfulFrom world number rows after w =
    IsJudged world.setup (world_of world) world.events number rows (Verdict.Lawful after) w

-- this was added to a text
abbrev pub Adds : List ℕ → List ℕ → List ℕ → Type 0
Adds text text' more = text' ≡ text ++ more

-- of this row so many rows were written, and the others go on from the world after it
pub record Says (before behind : WorldState) (number : ℕ) (row : Row) (more : List Row) (after : ℕ) (w : World)
    (Writes : List ℕ → Type 0) (count : ℕ) : Type 0 where
  pub rows : List Row
  pub all : rows_said before.setup (world_of before) (row ∷ more) ≡ rows
      ++ rows_said behind.setup (world_of behind) more
  pub counted : length rows ≡ count
  pub written : Writes (rows_text rows)
  pub lawful : IsLawfulFrom behind (number + 1) more after w
  pub same : behind.setup ≡ before.setup

-- the event was taken, and so many rows were written of it
pub record Steps (before behind : WorldState) (e : Event) (text text' : List ℕ) (count : ℕ) : Type 0 where
  pub answer : Answer
  pub step : Step before.setup (world_of before) e (world_of behind) answer
  pub counted : length (event_rows before.setup (world_of before) e (world_of behind)) ≡ count
  pub written : text' ≡ text ++ rows_text (event_rows before.setup (world_of before) e (world_of behind))
  pub events : behind.events ≡ before.events + 1
  pub same : behind.setup ≡ before.setup

-- the vector of node i was written as one row
abbrev pub Shows : WorldState → ℕ → List ℕ → List ℕ → ℕ → Type 0
Shows world i text text' count = IsNode world.setup i
    → (count ≡ 1) × (text' ≡ text ++ rows_text (shown_row (world_of world) i ∷ []))

-- the rows are lawful from this world on, wherever they stand
abbrev pub IsSomewhereLawful : WorldState → List Row → Type 0
IsSomewhereLawful world rows = (number : ℕ) × (after : ℕ) × (w : World) × IsLawfulFrom world number rows after w

-- all rows were written with everything said, if those are no more than a trace may have
abbrev pub IsWrittenOf : WorldState → List Row → (List ℕ → Type 0) → Bool → Type 0
IsWrittenOf world rows Writes true =
    Writes (rows_text (rows_said world.setup (world_of world) rows))
    × (length (rows_said world.setup (world_of world) rows) ≤ ROWS_MAX)
IsWrittenOf world rows Writes false = ROWS_MAX < length (rows_said world.setup (world_of world) rows)

-- the same of the whole trace
abbrev pub IsTraceWritten : Trace → (List ℕ → Type 0) → Bool → Type 0
IsTraceWritten trace Writes true = Writes (trace_text (annotated trace)) × (length (annotated trace).rows ≤ ROWS_MAX)
IsTraceWritten trace Writes false = ROWS_MAX < length (annotated trace).rows

-- from the first world on so many rows were written, and the others go on from this world
pub record GoesOn (first world : WorldState) (all others : List Row) (known known' : Option (List ℕ))
    (count : ℕ) : Type 0 where
  pub rows : List Row
  pub said : rows_said first.setup (world_of first) all ≡ rows ++ rows_said world.setup (world_of world) others
  pub counted : length rows ≡ count
  pub written : Appends known known' (rows_text rows)
  pub lawful : IsSomewhereLawful world others
