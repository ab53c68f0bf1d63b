-- What is told of a text: the verdict on its trace, or the fault that ends its reading.
use Rattle.std.specs.Prelude.{◌≡◌, ℕ, false, List, Option, Result, MatchResult}
use Rattle.bully_world.specs.State.{IsReached, WorldState, world_of}
use Rattle.bully_rows.specs.declared.trace.TraceFault.{TraceFault}
use Rattle.bully_trace.specs.declared.verdict.Verdict.{Verdict}
use Rattle.bully_rows.specs.RecordsLeft.{EndsReading}
use Rattle.bully_rows.specs.Rows.{OfTrace, is_of_form}
use Rattle.bully_rows.specs.Trace.{Trace}
use Rattle.bully_trace.specs.Verdict.{IsVerdict}
use Rattle.bully_account.specs.declared.showing.NodeSheet.{NodeSheet}
use Rattle.bully_account.specs.NodeSummary.{ShowsAll}

-- the trace has this verdict, as `check` tells it, and the sheets show the world to which its rows were taken: where a
-- row decided, the world before it
pub record Explains (verdict : Verdict) (sheets : List NodeSheet) (trace : Trace) : Type 0 where
  pub world : WorldState
  pub reached : IsReached world
  pub same : world.setup ≡ trace.setup
  pub judged : IsVerdict trace verdict (world_of world)
  pub shown : ShowsAll world sheets

-- where the bytes are known: the verdict on the trace that they mean, with these sheets; or the fault that ends their
-- reading
abbrev pub IsToldOf : Option (List ℕ) → List NodeSheet → Result Verdict TraceFault → Type 0
IsToldOf known sheets told = MatchResult told (λ verdict. OfTrace known (Explains verdict sheets)) (EndsReading known)

-- a fault of which no sheet is made: the reader failed, or memory was short
abbrev pub IsUntold : TraceFault → Type 0
IsUntold fault = is_of_form fault.cause ≡ false
