-- What annotating a trace comes to.
use Rattle.std.specs.Prelude.{◌≢◌, ◌<◌, ◌≤◌, ℕ, Bool, true, false, List, length}
use Rattle.bully_rows.specs.declared.TheConstants.{ROWS_MAX}
use Rattle.bully_trace.specs.declared.verdict.Verdict.{Verdict}
use Rattle.bully_rows.specs.Trace.{Trace}
use Rattle.bully_rows.specs.TraceText.{trace_text}
use Rattle.bully_trace.specs.Verdict.{IsVerdict}
use Rattle.bully_world.specs.World.{World}
use Rattle.bully_annotate.specs.declared.annotation.Annotation.{Annotation}
use Rattle.bully_annotate.specs.Annotated.{annotated}

-- what is told of the trace is so, and this was written: where it is lawful, and no longer with everything said than a
-- trace may be, the trace with everything said, which is as lawful; else nothing
abbrev pub IsAnnotationOf : Trace → Annotation → (List ℕ → Type 0) → Type 0 → Type 0
IsAnnotationOf trace (Annotation.Written count) Writes silent =
    (w : World) × IsVerdict trace (Verdict.Lawful count) w × IsVerdict (annotated trace) (Verdict.Lawful count) w
    × (length (annotated trace).rows ≤ ROWS_MAX) × Writes (trace_text (annotated trace))
IsAnnotationOf trace (Annotation.Unlawful verdict) Writes silent =
    (w : World) × IsVerdict trace verdict w × ((count : ℕ) → verdict ≢ Verdict.Lawful count) × silent
IsAnnotationOf trace Annotation.TooLong Writes silent =
    (count : ℕ) × (w : World) × IsVerdict trace (Verdict.Lawful count) w × (ROWS_MAX < length (annotated trace).rows)
    × silent

-- the trace is lawful, and no longer with everything said than a trace may be
abbrev pub IsWritable : Trace → Type 0
IsWritable trace = (count : ℕ) × (w : World) × IsVerdict trace (Verdict.Lawful count) w
    × (length (annotated trace).rows ≤ ROWS_MAX)

-- the annotated trace was written
abbrev pub is_written : Annotation → Bool
is_written (Annotation.Written count) = true
is_written (Annotation.Unlawful verdict) = false
is_written Annotation.TooLong = false
