-- From what `check` and `upgrade` of bully_trace ensure to what the program answers.
use Rattle.std.proofs.Common.{◌≡◌, ◌≢◌, ◌∙◌, ◌⊎◌, inl, inr, ℕ, true, List, Some, None, Ok, Err, refl, ap, arith, subst}
use Rattle.std.specs.Prelude.{IfSome, IsOk, IsTrue}
use Rattle.std.specs.Io.KnownBytes.{Appends, Keeps}
use Rattle.bully_base.specs.Setup.{Setup}
use Rattle.bully_world.specs.State.{world_of}
use Rattle.bully_world.specs.World.{World, first_world}
use Rattle.bully_rows.specs.declared.trace.TraceCause.{TraceCause}
use Rattle.bully_rows.specs.declared.trace.TraceFault.{TraceFault}
use Rattle.bully_trace.specs.declared.verdict.Verdict.{Verdict}
use Rattle.bully_rows.specs.Rows.{OfTrace, records_of, trace_of, is_of_form}
use Rattle.bully_rows.specs.declared.trace.Row.{Row}
use Rattle.bully_rows.specs.Trace.{Trace, headed, upgraded}
use Rattle.bully_rows.specs.TraceText.{trace_text}
use Rattle.bully_trace.specs.Judging.{AreAllJudged, HasJudged, JudgeState}
use Rattle.bully_trace.specs.Verdict.{IsJudged, IsVerdict}
use Rattle.bully_trace.specs.VerdictText.{verdict_text}
use Rattle.bully_json.specs.Objects.{verdict_line}
use Rattle.bully.specs.Answer.{KnownBytes, Tells, IsAnswer, IsCheckAnswer, IsUntaken, IsUpgradeAnswer, verdict_status, stop_of, stop_line, row_line}
use Rattle.bully.specs.declared.telling.Stop.{Stop}
use Rattle.bully.proofs.KnownBytesLemmas.{appends-keeps, keeps-same}

-- the text of the verdict was appended, and then the output was flushed
pub judged-answer : {E : Type 0} (contents : E → KnownBytes) (remaining : KnownBytes) (verdict : Verdict) (output written output' : KnownBytes) (errors errors' : E) (status : ℕ)
    → IfSome remaining (λ bytes. (trace : Trace) × (w : World) × (trace_of (records_of bytes) ≡ Ok trace) × IsVerdict trace verdict w × Appends output written (verdict_text trace.setup verdict w))
    → (((status ≡ verdict_status verdict) × Keeps written output' × (errors' ≡ errors)) ⊎ ((status ≡ 4) × Tells (contents errors) (contents errors') (stop_line Stop.Write)))
    → IfSome remaining (λ bytes. IsAnswer bytes output output' (contents errors) (contents errors') status)
judged-answer contents None verdict output written output' errors errors' status checked finished = tt
judged-answer contents (Some bytes) verdict output written output' errors errors' status (trace, w, is, judged, text) (inl (done, kept, same)) =
    inl (trace, verdict, w, is, judged, appends-keeps output written output' _ text kept, keeps-same _ _ (ap contents same), done)
judged-answer contents (Some bytes) verdict output written output' errors errors' status (trace, w, is, judged, text) (inr (stopped, told)) =
    inr (inr (Stop.Write, (λ other. absurd (other refl)), (λ _. rw is refl), told, stopped))

-- the text of the upgraded trace was appended, and then the output was flushed
pub upgraded-answer : {E : Type 0} (contents : E → KnownBytes) (remaining : KnownBytes) (output written output' : KnownBytes) (errors errors' : E) (status : ℕ)
    → OfTrace remaining (λ trace. Appends output written (trace_text (upgraded trace)))
    → (((status ≡ 0) × Keeps written output' × (errors' ≡ errors)) ⊎ ((status ≡ 4) × Tells (contents errors) (contents errors') (stop_line Stop.Write)))
    → IfSome remaining (λ bytes. IsUpgradeAnswer bytes output output' (contents errors) (contents errors') status)
upgraded-answer contents None output written output' errors errors' status done finished = tt
upgraded-answer contents (Some bytes) output written output' errors errors' status (trace, is, text) (inl (done, kept, same)) =
    inl (trace, is, appends-keeps output written output' _ text kept, keeps-same _ _ (ap contents same), done)
upgraded-answer contents (Some bytes) output written output' errors errors' status (trace, is, text) (inr (stopped, told)) =
    inr (inr (Stop.Write, (λ other. absurd (other refl)), (λ _. rw is refl), told, stopped))

-- where no trace is taken, none is judged and none is upgraded
pub none-judged : (remaining : KnownBytes) (output output' errors errors' : KnownBytes) (status : ℕ)
    → IfSome remaining (λ bytes. IsUntaken bytes output output' errors errors' status)
    → IfSome remaining (λ bytes. IsAnswer bytes output output' errors errors' status)
none-judged None output output' errors errors' status untaken = tt
none-judged (Some bytes) output output' errors errors' status untaken = inr untaken

pub none-told : (remaining : KnownBytes) (output output' errors errors' : KnownBytes) (status : ℕ)
    → IfSome remaining (λ bytes. IsUntaken bytes output output' errors errors' status)
    → IfSome remaining (λ bytes. IsCheckAnswer true bytes output output' errors errors' status)
none-told None output output' errors errors' status untaken = tt
none-told (Some bytes) output output' errors errors' status untaken = inr untaken

pub none-upgraded : (remaining : KnownBytes) (output output' errors errors' : KnownBytes) (status : ℕ)
    → IfSome remaining (λ bytes. IsUntaken bytes output output' errors errors' status)
    → IfSome remaining (λ bytes. IsUpgradeAnswer bytes output output' errors errors' status)
none-upgraded None output output' errors errors' status untaken = tt
none-upgraded (Some bytes) output output' errors errors' status untaken = inr untaken

-- the first faulty row was told, or there was no memory for its line
form-case : (remaining : KnownBytes) (fault : TraceFault) (output output' errors errors' : KnownBytes) (status : ℕ)
    → IfSome remaining (λ bytes. trace_of (records_of bytes) ≡ Err fault)
    → Keeps output output'
    → (((status ≡ 3) × Tells errors errors' (row_line fault)) ⊎ ((status ≡ 4) × Tells errors errors' (stop_line Stop.OutOfMemory)))
    → IfSome remaining (λ bytes. IsUntaken bytes output output' errors errors' status)
form-case None fault output output' errors errors' status read kept told = tt
form-case (Some bytes) fault output output' errors errors' status read kept (inl (done, told)) = inl (fault, read, kept, told, done)
form-case (Some bytes) fault output output' errors errors' status read kept (inr (done, told)) = inr (Stop.OutOfMemory, (λ _. kept), (λ e. absurd (grind (arith, e))), told, done)

pub stop-case : (remaining : KnownBytes) (stop : Stop) (output output' errors errors' : KnownBytes) (status : ℕ)
    → (stop ≢ Stop.Write → Keeps output output')
    → (stop ≡ Stop.Write → IfSome remaining (λ bytes. IsOk (trace_of (records_of bytes))))
    → (status ≡ 4) × Tells errors errors' (stop_line stop)
    → IfSome remaining (λ bytes. IsUntaken bytes output output' errors errors' status)
stop-case None stop output output' errors errors' status kept read told = tt
stop-case (Some bytes) stop output output' errors errors' status kept read (done, told) = inr (stop, kept, read, told, done)

-- the trace is at fault, or something failed
pub fault-answer : (cause : TraceCause) (remaining : KnownBytes) (fault : TraceFault) (output output' errors errors' : KnownBytes) (status : ℕ)
    → (IsTrue (is_of_form cause) → IfSome remaining (λ bytes. trace_of (records_of bytes) ≡ Err fault))
    → (cause ≢ TraceCause.Write → Keeps output output')
    → (cause ≡ TraceCause.Write → IfSome remaining (λ bytes. IsOk (trace_of (records_of bytes))))
    → (stop_of cause ≡ None → ((status ≡ 3) × Tells errors errors' (row_line fault)) ⊎ ((status ≡ 4) × Tells errors errors' (stop_line Stop.OutOfMemory)))
    → ((stop : Stop) → stop_of cause ≡ Some stop → (status ≡ 4) × Tells errors errors' (stop_line stop))
    → IfSome remaining (λ bytes. IsUntaken bytes output output' errors errors' status)
fault-answer TraceCause.BadHeader remaining fault output output' errors errors' status read kept whole form other =
    form-case remaining fault output output' errors errors' status (read refl) (kept (λ e. grind (arith, e))) (form refl)
fault-answer TraceCause.BadRow remaining fault output output' errors errors' status read kept whole form other =
    form-case remaining fault output output' errors errors' status (read refl) (kept (λ e. grind (arith, e))) (form refl)
fault-answer TraceCause.TooManyRows remaining fault output output' errors errors' status read kept whole form other =
    form-case remaining fault output output' errors errors' status (read refl) (kept (λ e. grind (arith, e))) (form refl)
fault-answer TraceCause.Read remaining fault output output' errors errors' status read kept whole form other =
    stop-case remaining Stop.Read output output' errors errors' status (λ _. kept (λ e. grind (arith, e))) (λ e. absurd (grind (arith, e))) (other Stop.Read refl)
fault-answer TraceCause.Write remaining fault output output' errors errors' status read kept whole form other =
    stop-case remaining Stop.Write output output' errors errors' status (λ write. absurd (write refl)) (λ _. whole refl) (other Stop.Write refl)
fault-answer TraceCause.OutOfMemory remaining fault output output' errors errors' status read kept whole form other =
    stop-case remaining Stop.OutOfMemory output output' errors errors' status (λ _. kept (λ e. grind (arith, e))) (λ e. absurd (grind (arith, e))) (other Stop.OutOfMemory refl)

-- what all rows of a text come to was told
pub told-answer : {E : Type 0} (contents : E → KnownBytes) (known : KnownBytes) (judge : JudgeState) (verdict : Verdict) (text : List ℕ) (output output' : KnownBytes) (errors errors' : E) (status : ℕ)
    → AreAllJudged known judge
    → ((setup : Setup) (rows : List Row) → HasJudged setup rows judge → IsJudged setup (first_world setup) 0 2 rows verdict (world_of judge.world))
    → text ≡ verdict_line judge.world.setup verdict (world_of judge.world)
    → (((status ≡ verdict_status verdict) × Appends output output' text × (errors' ≡ errors)) ⊎ ((status ≡ 4) × Tells (contents errors) (contents errors') (stop_line Stop.Write)))
    → IfSome known (λ bytes. IsCheckAnswer true bytes output output' (contents errors) (contents errors') status)
told-answer contents None judge verdict text output output' errors errors' status all says is written = tt
told-answer contents (Some bytes) judge verdict text output output' errors errors' status (header, rows, trace, within, judged) says is (inl (done, appended, same)) =
    inl (
      headed header rows,
      verdict,
      world_of judge.world,
      trace,
      says header.setup rows judged.0,
      subst (Appends output output') (is ∙ ap (λ s. verdict_line s verdict (world_of judge.world)) judged.0.same) appended,
      keeps-same _ _ (ap contents same),
      done,
    )
told-answer contents (Some bytes) judge verdict text output output' errors errors' status (header, rows, trace, within, judged) says is (inr (stopped, told)) =
    inr (inr (Stop.Write, (λ other. absurd (other refl)), (λ _. rw trace refl), told, stopped))

-- or there was no memory for that
pub untold-check : (known : KnownBytes) (output output' errors errors' : KnownBytes) (status : ℕ) → Keeps output output' → (status ≡ 4) × Tells errors errors' (stop_line Stop.OutOfMemory)
    → IfSome known (λ bytes. IsCheckAnswer true bytes output output' errors errors' status)
untold-check None output output' errors errors' status kept told = tt
untold-check (Some bytes) output output' errors errors' status kept (done, told) = inr (inr (Stop.OutOfMemory, (λ _. kept), (λ e. absurd (grind (arith, e))), told, done))
