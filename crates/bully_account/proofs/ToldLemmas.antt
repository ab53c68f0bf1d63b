-- What is told of a text, from what its rows came to.
use Rattle.std.proofs.Common.{◌≡◌, ℕ, List, Option, Some, None, Result, Ok, Err, refl, IfOk, IfErr}
use Rattle.bully_base.specs.Setup.{Setup}
use Rattle.bully_world.specs.State.{IsReached, world_of}
use Rattle.bully_world.specs.World.{first_world}
use Rattle.bully_rows.specs.declared.trace.Row.{Row}
use Rattle.bully_rows.specs.declared.trace.TraceFault.{TraceFault}
use Rattle.bully_trace.specs.declared.verdict.Verdict.{Verdict}
use Rattle.bully_trace.specs.Judging.{AreAllJudged, HasJudged, JudgeState}
use Rattle.bully_rows.specs.RecordsLeft.{EndsReading}
use Rattle.bully_rows.specs.Rows.{OfTrace, no_memory}
use Rattle.bully_rows.specs.Trace.{headed}
use Rattle.bully_trace.specs.Verdict.{IsJudged}
use Rattle.bully_rows.proofs.TraceLemmas.{memory-ends}
use Rattle.bully_account.specs.declared.showing.NodeSheet.{NodeSheet}
use Rattle.bully_account.specs.TraceReport.{Explains, IsUntold}
use Rattle.bully_account.specs.NodeSummary.{ShowsAll}

-- the verdict on all rows of a text is that on its trace, and its world the one that is shown
pub verdict-told : (known : Option (List ℕ)) (judge : JudgeState) (verdict : Verdict) (sheets : List NodeSheet)
    → ((setup : Setup) (rows : List Row) → HasJudged setup rows judge → IsJudged setup (first_world setup) 0 2 rows verdict (world_of judge.world))
    → IsReached judge.world → ShowsAll judge.world sheets → AreAllJudged known judge → OfTrace known (Explains verdict sheets)
verdict-told None judge verdict sheets says reached shown all = tt
verdict-told (Some bytes) judge verdict sheets says reached shown (header, rows, is, within, (judged, version)) = (
  headed header rows,
  is,
  record { world = judge.world; reached = reached; same = judged.same; judged = says header.setup rows judged; shown = shown },
)

-- a verdict is no fault
pub no-fault : {A : Type 0} (told : A → Result Verdict TraceFault) (P : A → TraceFault → Type 0) (r : Result A TraceFault)
    → IfOk r (λ a. (verdict : Verdict) × (told a ≡ Ok verdict)) → IfOk r (λ a. IfErr (told a) (P a))
no-fault told P (Ok a) (verdict, same) = rw same tt
no-fault told P (Err other) is = tt

-- want of memory
pub short-ends : {A : Type 0} (known : Option (List ℕ)) (r : Result A TraceFault) → IfErr r (λ fault. fault ≡ no_memory) → IfErr r (EndsReading known)
short-ends known (Ok a) is = tt
short-ends known (Err fault) is = rw is (memory-ends known)

pub short-untold : {A : Type 0} (r : Result A TraceFault) → IfErr r (λ fault. fault ≡ no_memory) → IfErr r IsUntold
short-untold (Ok a) is = tt
short-untold (Err fault) is = rw is refl
