-- What the judged rows of a text come to.
use Rattle.std.proofs.Common.{ℕ, List, Option, Some, None, subst, IfOk, Ok, Err, Result}
use Rattle.bully_base.specs.Setup.{Setup}
use Rattle.bully_world.specs.State.{world_of}
use Rattle.bully_world.specs.World.{first_world}
use Rattle.bully_rows.specs.declared.trace.Row.{Row}
use Rattle.bully_rows.specs.declared.trace.TraceFault.{TraceFault}
use Rattle.bully_rows.specs.Rows.{OfTrace}
use Rattle.bully_rows.specs.Trace.{Trace, headed}
use Rattle.bully_trace.specs.declared.verdict.Verdict.{Verdict}
use Rattle.bully_trace.specs.Judging.{AreAllJudged, HasJudged, JudgeState}
use Rattle.bully_trace.specs.Verdict.{IsJudged, IsVerdict}
use Rattle.bully_trace.specs.VerdictText.{IsJudgedAs, verdict_text}

-- the verdict, which is that of all rows that were judged
judged-as : (known : Option (List ℕ)) (judge : JudgeState) (verdict : Verdict) (Writes : List ℕ → Type 0)
    → ((setup : Setup) (rows : List Row) → HasJudged setup rows judge → IsJudged setup (first_world setup) 0 2 rows verdict (world_of judge.world))
    → Writes (verdict_text judge.world.setup verdict (world_of judge.world)) → AreAllJudged known judge → IsJudgedAs known verdict Writes
judged-as None judge verdict Writes says written all = tt
judged-as (Some bytes) judge verdict Writes says written (header, rows, is, within, (judged, version)) = (
  headed header rows,
  world_of judge.world,
  is,
  says header.setup rows judged,
  subst (λ s. Writes (verdict_text s verdict (world_of judge.world))) judged.same written,
)

judged-so : (known : Option (List ℕ)) (judge : JudgeState) (verdict : Verdict) (P : Trace → Type 0)
    → ((setup : Setup) (rows : List Row) → HasJudged setup rows judge → IsJudged setup (first_world setup) 0 2 rows verdict (world_of judge.world))
    → ((trace : Trace) → IsVerdict trace verdict (world_of judge.world) → P trace) → AreAllJudged known judge → OfTrace known P
judged-so None judge verdict P says holds all = tt
judged-so (Some bytes) judge verdict P says holds (header, rows, is, within, (judged, version)) =
    (headed header rows, is, holds (headed header rows) (says header.setup rows judged))

-- the same of what was told, which is a verdict or a fault
pub told-as : (known : Option (List ℕ)) (judge : JudgeState) (told : Result Verdict TraceFault) (Writes : List ℕ → Type 0)
    → ((setup : Setup) (rows : List Row) → HasJudged setup rows judge → IfOk told (λ verdict. IsJudged setup (first_world setup) 0 2 rows verdict (world_of judge.world)))
    → IfOk told (λ verdict. Writes (verdict_text judge.world.setup verdict (world_of judge.world))) → AreAllJudged known judge
    → IfOk told (λ verdict. IsJudgedAs known verdict Writes)
told-as known judge (Ok verdict) Writes says written all = judged-as known judge verdict Writes says written all
told-as known judge (Err fault) Writes says written all = tt

pub told-so : (known : Option (List ℕ)) (judge : JudgeState) (told : Result Verdict TraceFault) (P : Verdict → Trace → Type 0)
    → ((setup : Setup) (rows : List Row) → HasJudged setup rows judge → IfOk told (λ verdict. IsJudged setup (first_world setup) 0 2 rows verdict (world_of judge.world)))
    → ((verdict : Verdict) (trace : Trace) → IsVerdict trace verdict (world_of judge.world) → P verdict trace) → AreAllJudged known judge
    → IfOk told (λ verdict. OfTrace known (P verdict))
told-so known judge (Ok verdict) P says holds all = judged-so known judge verdict (P verdict) says (holds verdict) all
told-so known judge (Err fault) P says holds all = tt
