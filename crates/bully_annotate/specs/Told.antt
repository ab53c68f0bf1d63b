-- What is known of an annotated trace as a trace: that a text can tell it, and its events.
use Rattle.std.specs.Prelude.{◌≡◌, ◌≤◌, ℕ, length}
use Rattle.bully_rows.specs.declared.TheConstants.{ROWS_MAX}
use Rattle.bully_rows.specs.ReadBack.{IsTold}
use Rattle.bully_rows.specs.Trace.{Trace}
use Rattle.bully_trace.specs.declared.verdict.Verdict.{Verdict}
use Rattle.bully_trace.specs.Verdict.{IsVerdict, events_of}
use Rattle.bully_world.specs.World.{World}
use Rattle.bully_annotate.specs.Annotated.{annotated}

-- the annotated trace of a lawful one that a text can tell is such a one, unless it has more rows than a trace may
abbrev pub AnnotatedIsTold : Type 0
AnnotatedIsTold =
    (trace : Trace) (count : ℕ) (w : World) → IsTold trace → IsVerdict trace (Verdict.Lawful count) w
    → length (annotated trace).rows ≤ ROWS_MAX → IsTold (annotated trace)

-- it has the same events
abbrev pub AnnotatedHasEvents : Type 0
AnnotatedHasEvents =
    (trace : Trace) (count : ℕ) (w : World) → IsTold trace → IsVerdict trace (Verdict.Lawful count) w
    → events_of (annotated trace).rows ≡ events_of trace.rows
