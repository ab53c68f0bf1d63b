-- The text of a verdict.
use Rattle.std.specs.Prelude.{◌≡◌, ℕ, zero, suc, ◌+◌, List, [], ◌++◌, Option, Ok, IfSome, codes}
use Rattle.std.specs.Fmt.{decimal}
use Rattle.bully_base.specs.Setup.{Setup}
use Rattle.bully_handlers.specs.Vector.{Vector}
use Rattle.bully_world.specs.World.{World, vector}
use Rattle.bully_trace.specs.declared.verdict.Verdict.{Verdict}
use Rattle.bully_rows.specs.Rows.{records_of, trace_of}
use Rattle.bully_rows.specs.Trace.{Trace}
use Rattle.bully_rows.specs.TraceText.{node_text, task_text}
use Rattle.bully_trace.specs.Verdict.{IsVerdict}
use Rattle.bully_calls.specs.Events.{refusal_word}
use Rattle.bully_rows.specs.Words.{status_word}

abbrev pub node_line : ℕ → Vector → List ℕ
node_line i v =
    decimal i ++ codes " " ++ status_word v.status ++ codes " " ++ node_text v.coordinator ++ codes " "
    ++ node_text v.halter
    ++ codes " " ++ task_text 44 v.task ++ codes "\n"

-- the lines of the first n nodes
abbrev pub node_lines : World → ℕ → List ℕ
node_lines w zero = []
node_lines w (suc n) = node_lines w n ++ node_line (n + 1) (vector w (n + 1))

-- the line of the verdict itself
abbrev pub verdict_head : Verdict → List ℕ
verdict_head (Verdict.Lawful count) = codes "lawful " ++ decimal count ++ codes "\n"
verdict_head (Verdict.Refused row why) = codes "refused " ++ decimal row ++ codes " " ++ refusal_word why ++ codes "\n"
verdict_head (Verdict.Differs row) = codes "differs " ++ decimal row ++ codes "\n"

-- with the vectors of the last world, where the trace is lawful
abbrev pub verdict_text : Setup → Verdict → World → List ℕ
verdict_text setup (Verdict.Lawful count) w = verdict_head (Verdict.Lawful count) ++ node_lines w setup.nodes
verdict_text setup (Verdict.Refused row why) w = verdict_head (Verdict.Refused row why)
verdict_text setup (Verdict.Differs row) w = verdict_head (Verdict.Differs row)

-- where the bytes of a reader are known, they mean a trace with this verdict, whose text is written
abbrev pub IsJudgedAs : Option (List ℕ) → Verdict → (List ℕ → Type 0) → Type 0
IsJudgedAs known verdict Writes =
    IfSome known (λ bytes. (trace : Trace) × (w : World) × (trace_of (records_of bytes) ≡ Ok trace)
    × IsVerdict trace verdict w × Writes (verdict_text trace.setup verdict w))
