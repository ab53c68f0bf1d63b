-- The verdict on the rows of a trace.
use Rattle.std.specs.Prelude.{◌≡◌, ℕ, ◌+◌, List, [], ◌∷◌, length, take, MatchOption}
use Rattle.std.specs.Bool.{MatchBool}
use Rattle.bully_base.specs.Setup.{Setup}
use Rattle.bully_calls.specs.declared.call.Answer.{Answer}
use Rattle.bully_calls.specs.declared.event.Event.{Event}
use Rattle.bully_world.specs.Cause.{cause}
use Rattle.bully_world.specs.Lawful.{IsLawful}
use Rattle.bully_world.specs.Step.{Step}
use Rattle.bully_world.specs.World.{World, first_world}
use Rattle.bully_agree.specs.Agreement.{Agreement}
use Rattle.bully_rows.specs.declared.trace.Row.{Row}
use Rattle.bully_trace.specs.declared.verdict.Verdict.{Verdict}
use Rattle.bully_rows.specs.EventsTold.{event_of_detailed}
use Rattle.bully_trace.specs.Details.{is_so, is_true, is_whole}
use Rattle.bully_rows.specs.Trace.{Trace}

-- from a world in which so many events were applied, the rows from this number on come to this verdict,
-- and to this last world
abbrev pub IsJudged : Setup → World → ℕ → ℕ → List Row → Verdict → World → Type 0
IsJudged setup w count number [] verdict w' = (verdict ≡ Verdict.Lawful count) × (w' ≡ w)
IsJudged setup w count number (Row.Event e ∷ rows) verdict w' =
    MatchOption (cause setup w count e)
    ((mid : World) × (a : Answer) × Step setup w e mid a × IsJudged setup mid (count + 1) (number + 1) rows verdict w')
    (λ why. (verdict ≡ Verdict.Refused number why) × (w' ≡ w))
IsJudged setup w count number (Row.Detailed e ∷ rows) verdict w' =
    MatchOption (cause setup w count (event_of_detailed e))
    (MatchBool (is_so setup w e)
    ((mid : World) × (a : Answer) × Step setup w (event_of_detailed e) mid a
    × IsJudged setup mid (count + 1) (number + 1) rows verdict w')
    ((verdict ≡ Verdict.Differs number) × (w' ≡ w)))
    (λ why. (verdict ≡ Verdict.Refused number why) × (w' ≡ w))
IsJudged setup w count number (Row.Claim claim ∷ rows) verdict w' =
    MatchBool (is_true setup w claim)
    (IsJudged setup w count (number + 1) rows verdict w')
    ((verdict ≡ Verdict.Differs number) × (w' ≡ w))
IsJudged setup w count number (Row.Whole whole ∷ rows) verdict w' =
    MatchBool (is_whole setup w whole)
    (IsJudged setup w count (number + 1) rows verdict w')
    ((verdict ≡ Verdict.Differs number) × (w' ≡ w))

-- the verdict on a trace, and the world that its rows were taken to
abbrev pub IsVerdict : Trace → Verdict → World → Type 0
IsVerdict trace verdict w = IsJudged trace.setup (first_world trace.setup) 0 2 trace.rows verdict w

-- the events of the rows
abbrev pub events_of : List Row → List Event
events_of [] = []
events_of (Row.Event e ∷ rows) = e ∷ events_of rows
events_of (Row.Detailed e ∷ rows) = event_of_detailed e ∷ events_of rows
events_of (Row.Claim claim ∷ rows) = events_of rows
events_of (Row.Whole whole ∷ rows) = events_of rows

-- where the verdict is lawful with a count, the rows mean a lawful list of so many events
abbrev pub IsLawfulCount : Trace → Verdict → Type 0
IsLawfulCount trace (Verdict.Lawful count) =
    (answers : List Answer) × (w : World) × IsLawful trace.setup (events_of trace.rows) answers w
    × (length (events_of trace.rows) ≡ count)
IsLawfulCount trace (Verdict.Refused number why) = Unit {0}
IsLawfulCount trace (Verdict.Differs number) = Unit {0}

-- where the verdict is lawful, the events up to each row are lawful too, and in the world that they lead to the
-- nodes agree
abbrev pub AgreesAfterEachRow : Trace → Verdict → Type 0
AgreesAfterEachRow trace (Verdict.Lawful count) =
    (k : ℕ) → (answers : List Answer) × (w : World) × IsLawful trace.setup (events_of (take k trace.rows)) answers w
    × Agreement w
AgreesAfterEachRow trace (Verdict.Refused number why) = Unit {0}
AgreesAfterEachRow trace (Verdict.Differs number) = Unit {0}
