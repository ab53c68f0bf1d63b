-- From what `annotate` of bully_annotate ensures to what the program answers.
use Rattle.std.proofs.Common.{◌≡◌, ◌≢◌, ◌⊎◌, inl, inr, ℕ, Some, None, refl, ap, arith}
use Rattle.std.specs.Prelude.{IfSome}
use Rattle.std.specs.Io.KnownBytes.{Appends, Keeps}
use Rattle.bully_trace.specs.declared.verdict.Verdict.{Verdict}
use Rattle.bully_rows.specs.declared.trace.TraceCause.{TraceCause}
use Rattle.bully_rows.specs.Rows.{OfTrace}
use Rattle.bully_annotate.specs.Annotation.{IsAnnotationOf, IsWritable}
use Rattle.bully_annotate.specs.declared.annotation.Annotation.{Annotation}
use Rattle.bully.specs.Answer.{IsUntaken, KnownBytes, Tells, stop_line}
use Rattle.bully.specs.AnnotateAnswer.{IsAnnotateAnswer, IsBegunAlone, long_line, verdict_line}
use Rattle.bully.specs.declared.telling.Stop.{Stop}
use Rattle.bully.proofs.KnownBytesLemmas.{appends-keeps, keeps-same}

-- where a write failed the trace is lawful, and else nothing was written
pub begun-alone : (cause : TraceCause) (remaining output output' : KnownBytes) → (cause ≢ TraceCause.Write → Keeps output output')
    → (cause ≡ TraceCause.Write → OfTrace remaining IsWritable) → IfSome remaining (λ bytes. IsBegunAlone bytes output output')
begun-alone cause None output output' kept writable = tt
begun-alone TraceCause.BadHeader (Some bytes) output output' kept writable = inl (kept (λ e. grind (arith, e)))
begun-alone TraceCause.BadRow (Some bytes) output output' kept writable = inl (kept (λ e. grind (arith, e)))
begun-alone TraceCause.TooManyRows (Some bytes) output output' kept writable = inl (kept (λ e. grind (arith, e)))
begun-alone TraceCause.Read (Some bytes) output output' kept writable = inl (kept (λ e. grind (arith, e)))
begun-alone TraceCause.Write (Some bytes) output output' kept writable = inr (writable refl)
begun-alone TraceCause.OutOfMemory (Some bytes) output output' kept writable = inl (kept (λ e. grind (arith, e)))

pub kept-alone : (remaining output output' : KnownBytes) → Keeps output output' → IfSome remaining (λ bytes. IsBegunAlone bytes output output')
kept-alone None output output' kept = tt
kept-alone (Some bytes) output output' kept = inl kept

pub none-annotated : (remaining : KnownBytes) (output output' errors errors' : KnownBytes) (status : ℕ)
    → IfSome remaining (λ bytes. IsUntaken bytes output output' errors errors' status)
    → IfSome remaining (λ bytes. IsBegunAlone bytes output output')
    → IfSome remaining (λ bytes. IsAnnotateAnswer bytes output output' errors errors' status)
none-annotated None output output' errors errors' status untaken begun = tt
none-annotated (Some bytes) output output' errors errors' status untaken begun = inr (untaken, begun)

-- the annotated trace was appended, and then the output was flushed
pub written-answer : {W E : Type 0} (bytes-of : W → KnownBytes) (contents : E → KnownBytes) (remaining : KnownBytes) (count : ℕ) (out written out' : W) (errors errors' : E) (status : ℕ)
    → OfTrace remaining (λ trace. IsAnnotationOf trace (Annotation.Written count) (Appends (bytes-of out) (bytes-of written)) (written ≡ out))
    → (((status ≡ 0) × Keeps (bytes-of written) (bytes-of out') × (errors' ≡ errors)) ⊎ ((status ≡ 4) × Tells (contents errors) (contents errors') (stop_line Stop.Write)))
    → IfSome remaining (λ bytes. IsAnnotateAnswer bytes (bytes-of out) (bytes-of out') (contents errors) (contents errors') status)
written-answer bytes-of contents None count out written out' errors errors' status told finished = tt
written-answer bytes-of contents (Some bytes) count out written out' errors errors' status (trace, is, (w, lawful, same, few, text)) (inl (done, kept, still)) =
    inl (trace, is, inl (count, w, lawful, same, few, appends-keeps (bytes-of out) (bytes-of written) (bytes-of out') _ text kept, keeps-same _ _ (ap contents still), done))
written-answer bytes-of contents (Some bytes) count out written out' errors errors' status (trace, is, (w, lawful, same, few, text)) (inr (stopped, line)) =
    inr (inr (Stop.Write, (λ other. absurd (other refl)), (λ _. rw is refl), line, stopped), inr (trace, is, (count, w, lawful, few)))

-- the verdict was told, or there was no memory for its line
pub unlawful-answer : {W E : Type 0} (bytes-of : W → KnownBytes) (contents : E → KnownBytes) (remaining : KnownBytes) (verdict : Verdict) (out out' : W) (errors errors' : E) (status : ℕ)
    → OfTrace remaining (λ trace. IsAnnotationOf trace (Annotation.Unlawful verdict) (Appends (bytes-of out) (bytes-of out')) (out' ≡ out))
    → (((status ≡ 1) × Tells (contents errors) (contents errors') (verdict_line verdict)) ⊎ ((status ≡ 4) × Tells (contents errors) (contents errors') (stop_line Stop.OutOfMemory)))
    → IfSome remaining (λ bytes. IsAnnotateAnswer bytes (bytes-of out) (bytes-of out') (contents errors) (contents errors') status)
unlawful-answer bytes-of contents None verdict out out' errors errors' status told line = tt
unlawful-answer bytes-of contents (Some bytes) verdict out out' errors errors' status (trace, is, (w, judged, other, silent)) (inl (done, line)) =
    inl (trace, is, inr (inl (verdict, w, judged, other, keeps-same _ _ (ap bytes-of silent), line, done)))
unlawful-answer bytes-of contents (Some bytes) verdict out out' errors errors' status (trace, is, (w, judged, other, silent)) (inr (stopped, line)) =
    inr (inr (Stop.OutOfMemory, (λ _. keeps-same _ _ (ap bytes-of silent)), (λ e. absurd (grind (arith, e))), line, stopped), inl (keeps-same _ _ (ap bytes-of silent)))

-- that it would be too long was told
pub long-answer : {W E : Type 0} (bytes-of : W → KnownBytes) (contents : E → KnownBytes) (remaining : KnownBytes) (out out' : W) (errors errors' : E)
    → OfTrace remaining (λ trace. IsAnnotationOf trace Annotation.TooLong (Appends (bytes-of out) (bytes-of out')) (out' ≡ out))
    → Tells (contents errors) (contents errors') long_line
    → IfSome remaining (λ bytes. IsAnnotateAnswer bytes (bytes-of out) (bytes-of out') (contents errors) (contents errors') 3)
long-answer bytes-of contents None out out' errors errors' told line = tt
long-answer bytes-of contents (Some bytes) out out' errors errors' (trace, is, (count, w, lawful, long, silent)) line =
    inl (trace, is, inr (inr (count, w, lawful, long, keeps-same _ _ (ap bytes-of silent), line, refl)))
