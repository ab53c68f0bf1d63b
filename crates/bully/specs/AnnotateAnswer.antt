-- What the program answers to `annotate`.
use Rattle.std.specs.Prelude.{◌≡◌, ◌≢◌, ◌⊎◌, ◌<◌, ◌≤◌, ℕ, List, ◌++◌, Ok, codes, length}
use Rattle.std.specs.Io.KnownBytes.{Appends, Keeps}
use Rattle.bully_world.specs.World.{World}
use Rattle.bully_rows.specs.declared.TheConstants.{ROWS_MAX}
use Rattle.bully_trace.specs.declared.verdict.Verdict.{Verdict}
use Rattle.bully_rows.specs.Rows.{records_of, trace_of}
use Rattle.bully_rows.specs.Trace.{Trace}
use Rattle.bully_rows.specs.TraceText.{trace_text}
use Rattle.bully_trace.specs.Verdict.{IsVerdict}
use Rattle.bully_trace.specs.VerdictText.{verdict_head}
use Rattle.bully_annotate.specs.Annotated.{annotated}
use Rattle.bully_annotate.specs.Annotation.{IsWritable}
use Rattle.bully.specs.Answer.{IsUntaken, KnownBytes, Tells}

-- the line of a verdict
abbrev pub verdict_line : Verdict → List ℕ
verdict_line verdict = codes "bully: " ++ verdict_head verdict

abbrev pub long_line : List ℕ
long_line = codes "bully: annotated trace: TooManyRows\n"

-- the trace is lawful: it stands on the output with everything said, as lawful
abbrev pub IsAnnotatedAnswer : Trace → KnownBytes → KnownBytes → KnownBytes → KnownBytes → ℕ → Type 0
IsAnnotatedAnswer trace output output' errors errors' status =
    (count : ℕ) × (w : World) × IsVerdict trace (Verdict.Lawful count) w
    × IsVerdict (annotated trace) (Verdict.Lawful count) w
    × (length (annotated trace).rows ≤ ROWS_MAX) × Appends output output' (trace_text (annotated trace))
    × Keeps errors errors' × (status ≡ 0)

-- it isn't: its verdict is told on the errors, and nothing stands on the output
abbrev pub IsUnlawfulAnswer : Trace → KnownBytes → KnownBytes → KnownBytes → KnownBytes → ℕ → Type 0
IsUnlawfulAnswer trace output output' errors errors' status =
    (verdict : Verdict) × (w : World) × IsVerdict trace verdict w × ((count : ℕ) → verdict ≢ Verdict.Lawful count)
    × Keeps output output' × Tells errors errors' (verdict_line verdict) × (status ≡ 1)

-- it is lawful, and with everything said it has more rows than a trace may: that is told on the errors, and nothing
-- stands on the output
abbrev pub IsTooLongAnswer : Trace → KnownBytes → KnownBytes → KnownBytes → KnownBytes → ℕ → Type 0
IsTooLongAnswer trace output output' errors errors' status =
    (count : ℕ) × (w : World) × IsVerdict trace (Verdict.Lawful count) w × (ROWS_MAX < length (annotated trace).rows)
    × Keeps output output' × Tells errors errors' long_line × (status ≡ 3)

-- the input means a trace, and one of these is answered
abbrev pub IsTakenAnswer : List ℕ → KnownBytes → KnownBytes → KnownBytes → KnownBytes → ℕ → Type 0
IsTakenAnswer bytes output output' errors errors' status =
    (trace : Trace) × (trace_of (records_of bytes) ≡ Ok trace)
    × (IsAnnotatedAnswer trace output output' errors errors' status ⊎ (IsUnlawfulAnswer trace output output' errors
    errors' status ⊎ IsTooLongAnswer trace output output' errors errors' status))

-- nothing stands on the output, or the input means a trace that is lawful and no longer with everything said than a
-- trace may be
abbrev pub IsBegunAlone : List ℕ → KnownBytes → KnownBytes → Type 0
IsBegunAlone bytes output output' =
    Keeps output output' ⊎ ((trace : Trace) × (trace_of (records_of bytes) ≡ Ok trace) × IsWritable trace)

-- the answer to `annotate` with these bytes on the input
abbrev pub IsAnnotateAnswer : List ℕ → KnownBytes → KnownBytes → KnownBytes → KnownBytes → ℕ → Type 0
IsAnnotateAnswer bytes output output' errors errors' status =
    IsTakenAnswer bytes output output' errors errors' status
    ⊎ (IsUntaken bytes output output' errors errors' status × IsBegunAlone bytes output output')
