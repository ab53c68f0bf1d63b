-- What the program answers to `follow` and to `completion`: the status, and what then stands on the errors.
use Rattle.std.specs.Prelude.{◌≡◌, ◌⊎◌, ℕ, List, Some, Err, MatchOption}
use Rattle.std.specs.Io.KnownBytes.{Appends, Keeps}
use Rattle.bully_cli.specs.Shells.{shell_named}
use Rattle.bully_rows.specs.declared.trace.TraceFault.{TraceFault}
use Rattle.bully_rows.specs.Rows.{records_of, trace_of}
use Rattle.bully_trace.specs.declared.verdict.Verdict.{Verdict}
use Rattle.bully_follow.specs.Followed.{IsFollowedAs}
use Rattle.bully.specs.Answer.{IsBadWord, IsShort, KnownBytes, Tells, row_line, stop_line, verdict_status}
use Rattle.bully.specs.BadWords.{shell_line}
use Rattle.bully.specs.ConfigAnswer.{IsStopped}
use Rattle.bully.specs.declared.telling.Stop.{Stop}

-- the answer to `follow` where the trace has these bytes: the status of its verdict, of all its rows or of those up to
-- the one that decided; or the first faulty row is told, or what failed
abbrev pub IsFollowAnswer : List ℕ → KnownBytes → KnownBytes → ℕ → Type 0
IsFollowAnswer bytes errors errors' status =
    ((verdict : Verdict) × IsFollowedAs (Some bytes) verdict × Keeps errors errors' × (status ≡ verdict_status verdict))
    ⊎ ((fault : TraceFault) × (trace_of (records_of bytes) ≡ Err fault) × Tells errors errors' (row_line fault)
    × (status ≡ 3))
    ⊎ ((stop : Stop) × Tells errors errors' (stop_line stop) × (status ≡ 4))

-- the answer to `completion` of a shell of this name
abbrev pub IsCompletionAnswer : List ℕ → KnownBytes → KnownBytes → KnownBytes → KnownBytes → ℕ → Type 0
IsCompletionAnswer name output output' errors errors' status =
    MatchOption (shell_named name)
    (IsBadWord shell_line output output' errors errors' status ⊎ IsShort output output' errors errors' status)
    (λ shell. ((text : List ℕ) × Appends output output' text × Keeps errors errors' × (status ≡ 0))
    ⊎ IsStopped output output' errors errors' status)
