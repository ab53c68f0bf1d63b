-- The world after the rows of a trace: each row that doesn't decide takes the world on, and none after the one that
-- decides.
use Rattle.std.specs.Prelude.{◌≡◌, ℕ, ◌+◌, Bool, List, [], ◌∷◌, Some, None, ◌||◌, not, is_some, if◌then◌else◌}
use Rattle.bully_base.specs.Setup.{Setup}
use Rattle.bully_rows.specs.declared.trace.Row.{Row}
use Rattle.bully_rows.specs.EventsTold.{event_of_detailed}
use Rattle.bully_trace.specs.Details.{is_so, is_true, is_whole}
use Rattle.bully_trace.specs.declared.verdict.Verdict.{Verdict}
use Rattle.bully_trace.specs.Verdict.{IsJudged}
use Rattle.bully_calls.specs.declared.event.Event.{Event}
use Rattle.bully_world.specs.Cause.{cause}
use Rattle.bully_world.specs.StepOf.{step_of}
use Rattle.bully_world.specs.World.{World, first_world}

-- the row decides in this world, with so many events applied: its event is refused, or what it says isn't so
abbrev pub decides : Setup → World → ℕ → Row → Bool
decides setup w count (Row.Event e) = is_some (cause setup w count e)
decides setup w count (Row.Detailed d) = is_some (cause setup w count (event_of_detailed d)) || not (is_so setup w d)
decides setup w count (Row.Claim claim) = not (is_true setup w claim)
decides setup w count (Row.Whole whole) = not (is_whole setup w whole)

-- the world after an event; the same one where it isn't possible
abbrev pub stepped : Setup → World → Event → World
stepped setup w e = elim (step_of setup w e) as (λ _. World) [ None ↦ w | Some r ↦ r.0 ]

-- the world after a row that doesn't decide
abbrev pub next_world : Setup → World → Row → World
next_world setup w (Row.Event e) = stepped setup w e
next_world setup w (Row.Detailed d) = stepped setup w (event_of_detailed d)
next_world setup w (Row.Claim claim) = w
next_world setup w (Row.Whole whole) = w

abbrev pub next_count : ℕ → Row → ℕ
next_count count (Row.Event e) = count + 1
next_count count (Row.Detailed d) = count + 1
next_count count (Row.Claim claim) = count
next_count count (Row.Whole whole) = count

-- the world to which the rows are taken, from this world on, in which so many events were applied
abbrev pub taken : Setup → World → ℕ → List Row → World
taken setup w count [] = w
taken setup w count (row ∷ rows) = if decides setup w count row then w else
    taken setup (next_world setup w row) (next_count count row) rows

-- the world after the first rows of a trace
abbrev pub world_behind : Setup → List Row → World
world_behind setup rows = taken setup (first_world setup) 0 rows

-- rows that are judged lead to the world after them
abbrev pub LeadsBehind : Type 0
LeadsBehind = (setup : Setup) (rows : List Row) (verdict : Verdict) (w : World)
    → IsJudged setup (first_world setup) 0 2 rows verdict w → w ≡ world_behind setup rows
