-- What the program answers to what words ask for, whatever that is: the status, and what then stands on the output and
-- on the errors.
use Rattle.std.specs.Prelude.{◌≡◌, ◌⊎◌, ◌++◌, ℕ, List, Option, Some, None, IfSome, MatchOption, codes, is_some}
use Rattle.std.specs.Prelude.{if◌then◌else◌, ⊤}
use Rattle.std.specs.Str.{bytes_eq}
use Rattle.std.specs.Io.KnownBytes.{Keeps}
use Rattle.bully_cli.specs.Words.{Asked, annotating, checking, completing, drawing, explaining, following, planning}
use Rattle.bully_cli.specs.Words.{playing, running, upgrading}
use Rattle.bully_draft.specs.Shown.{shown}
use Rattle.bully.specs.Answer.{IsCheckAnswer, IsUpgradeAnswer, KnownBytes, Tells, is_given, stop_line}
use Rattle.bully.specs.AnnotateAnswer.{IsAnnotateAnswer}
use Rattle.bully.specs.ConfigAnswer.{IsPlayAnswer, IsRunAnswer, IsTableAnswer}
use Rattle.bully.specs.DrawAnswer.{IsDrawAnswer}
use Rattle.bully.specs.ExplainAnswer.{IsConfigExplained, IsExplainAnswer}
use Rattle.bully.specs.FollowAnswer.{IsCompletionAnswer, IsFollowAnswer}
use Rattle.bully.specs.declared.telling.Stop.{Stop}

-- the path of the trace; none where it stands on the input
abbrev pub path_in : Option (List ℕ) → Option (List ℕ)
path_in None = None
path_in (Some path) = if bytes_eq path (codes "-") then None else Some path

-- the path is shown as all that comes from outside: it ends no line, and turns nothing that stands around it
abbrev pub unopened_line : List ℕ → List ℕ → List ℕ
unopened_line path reason = codes "bully: " ++ shown path ++ codes ": " ++ reason ++ codes "\n"

-- a file can't be opened: its path and the reason are told on the errors
abbrev pub IsUnopened : List ℕ → KnownBytes → KnownBytes → ℕ → Type 0
IsUnopened path errors errors' status =
    (status ≡ 4) × (((reason : List ℕ) × Tells errors errors' (unopened_line path reason))
    ⊎ Tells errors errors' (stop_line Stop.OutOfMemory))

-- the path of the trace that is asked for, where it doesn't stand on the input. A FILE beside a configuration to
-- explain is a bad word
abbrev pub path_asked : Asked → Option (List ℕ)
path_asked (checking file json) = path_in file
path_asked (explaining file None json) = path_in file
path_asked (explaining file (Some config) json) = None
path_asked (following file json) = path_in file
path_asked (upgrading file) = path_in file
path_asked (annotating file) = path_in file
path_asked (drawing words) = path_in words.file
path_asked (playing path) = None
path_asked (running path) = None
path_asked (planning path members old json) = None
path_asked (completing shell) = None

-- the answer to this, where so much is known of the trace's bytes; of a configuration at a path there are some bytes
abbrev pub IsAnswerTo : Asked → KnownBytes → KnownBytes → KnownBytes → KnownBytes → KnownBytes → ℕ → Type 0
IsAnswerTo (checking file json) input output output' errors errors' status =
    IfSome input (λ bytes. IsCheckAnswer (is_given json) bytes output output' errors errors' status)
IsAnswerTo (explaining file None json) input output output' errors errors' status =
    IfSome input (λ bytes. IsExplainAnswer (is_given json) bytes output output' errors errors' status)
IsAnswerTo (explaining file (Some path) json) input output output' errors errors' status =
    IsConfigExplained (is_some file) (is_given json) output output' errors errors' status
IsAnswerTo (following file json) input output output' errors errors' status =
    IfSome input (λ bytes. IsFollowAnswer bytes errors errors' status)
IsAnswerTo (upgrading file) input output output' errors errors' status =
    IfSome input (λ bytes. IsUpgradeAnswer bytes output output' errors errors' status)
IsAnswerTo (annotating file) input output output' errors errors' status =
    IfSome input (λ bytes. IsAnnotateAnswer bytes output output' errors errors' status)
IsAnswerTo (drawing words) input output output' errors errors' status =
    IfSome input (λ bytes. IsDrawAnswer bytes words output output' errors errors' status)
IsAnswerTo (playing path) input output output' errors errors' status =
    (bytes : List ℕ) × IsPlayAnswer bytes output output' errors errors' status
IsAnswerTo (running path) input output output' errors errors' status =
    (bytes : List ℕ) × IsRunAnswer bytes output output' errors errors' status
IsAnswerTo (planning path members old json) input output output' errors errors' status =
    (bytes : List ℕ) × IsTableAnswer (is_given json) bytes members old output output' errors errors' status
IsAnswerTo (completing shell) input output output' errors errors' status =
    IsCompletionAnswer shell output output' errors errors' status

-- the same, of a trace on the input or in a file: one that can't be opened is told with its path
abbrev pub IsAnswerFrom : (KnownBytes → Type 0) → Asked → KnownBytes → KnownBytes → KnownBytes → KnownBytes → KnownBytes
    → ℕ → Type 0
IsAnswerFrom Opens what input output output' errors errors' status =
    MatchOption (path_asked what)
    (IsAnswerTo what input output output' errors errors' status)
    (λ path. (Keeps output output' × IsUnopened path errors errors' status)
    ⊎ ((known : KnownBytes) × Opens known × IsAnswerTo what known output output' errors errors' status))

-- it is asked to follow a trace: what changed before a fault stands on the output
abbrev pub follows : Option Asked → Type 0
follows (Some (following file json)) = ⊤
follows _ = ⊥
