-- What was done with the upgraded trace, said of the trace that was read.
use Rattle.std.proofs.Common.{◌≡◌, ◌↔◌, ℕ, List, Option, Some, None, subst, IfOk, Ok, Err, Result}
use Rattle.bully_world.specs.World.{World}
use Rattle.bully_rows.specs.declared.trace.TraceFault.{TraceFault}
use Rattle.bully_trace.specs.declared.verdict.Verdict.{Verdict}
use Rattle.bully_rows.specs.Rows.{IsTraceOf, OfTrace}
use Rattle.bully_rows.specs.Trace.{Trace, upgraded}
use Rattle.bully_trace.specs.Verdict.{IsVerdict}

upgraded-so : (known : Option (List ℕ)) (trace newer : Trace) (P : Trace → Type 0) → IsTraceOf known trace → newer ≡ upgraded trace → P newer
    → OfTrace known (λ t. P (upgraded t))
upgraded-so None trace newer P is same holds = tt
upgraded-so (Some bytes) trace newer P is same holds = (trace, is, subst P same holds)

-- the same of what was told, which is a number of rows or a fault
pub told-upgraded : (known : Option (List ℕ)) (trace newer : Trace) (told : Result ℕ TraceFault) (P : ℕ → Trace → Type 0)
    → IsTraceOf known trace → newer ≡ upgraded trace → IfOk told (λ count. P count newer)
    → IfOk told (λ count. OfTrace known (λ t. P count (upgraded t)))
told-upgraded known trace newer (Ok count) P is same holds = upgraded-so known trace newer (P count) is same holds
told-upgraded known trace newer (Err fault) P is same holds = tt

-- the verdict goes by setup and rows alone
pub verdict-stays : (trace : Trace) (verdict : Verdict) (w : World) → IsVerdict (upgraded trace) verdict w ↔ IsVerdict trace verdict w
verdict-stays trace verdict w = (λ is. is, λ is. is)
