-- What the program answers to `explain`: the status, and what then stands on the output and on the errors.
use Rattle.std.specs.Prelude.{◌≡◌, ◌⊎◌, ℕ, Bool, true, false, List, ◌++◌, None, Some, Ok, Err}
use Rattle.std.specs.Io.KnownBytes.{Appends, Keeps}
use Rattle.bully_rows.specs.declared.trace.TraceFault.{TraceFault}
use Rattle.bully_rows.specs.Rows.{records_of, trace_of}
use Rattle.bully_rows.specs.Trace.{Trace}
use Rattle.bully_trace.specs.Verdict.{IsVerdict}
use Rattle.bully_trace.specs.declared.verdict.Verdict.{Verdict}
use Rattle.bully_world.specs.World.{World}
use Rattle.bully_json.specs.Objects.{sheet_line}
use Rattle.bully_config.specs.Configuration.{Configuration}
use Rattle.bully_config.specs.declared.fault.ConfigFault.{ConfigFault}
use Rattle.bully_draft.specs.ConfigTold.{IsConfigText}
use Rattle.bully_explain.specs.SheetText.{IsFormText, IsSheetText}
use Rattle.bully.specs.Answer.{IsBadWord, IsShort, IsStopAnswer, KnownBytes, Tells, row_line, verdict_status}
use Rattle.bully.specs.BadWords.{file_line, json_line}
use Rattle.bully.specs.ConfigAnswer.{IsStopped}
use Rattle.bully.specs.RefusalText.{refusal_line}
use Rattle.bully.specs.Wanted.{ReadsAs}
use Rattle.bully.specs.declared.refusals.Refusal.{Refusal}

-- what is told of a sheet: itself, or as an object with its verdict
abbrev pub sheet_told : Bool → Verdict → List ℕ → List ℕ
sheet_told false verdict sheet = sheet
sheet_told true verdict sheet = sheet_line verdict sheet

-- the rows of the input have a verdict: its sheet stands on the output, which starts with the row that decided, and how
-- it did
abbrev pub IsExplainedAnswer : Bool → List ℕ → KnownBytes → KnownBytes → KnownBytes → KnownBytes → ℕ → Type 0
IsExplainedAnswer is_json bytes output output' errors errors' status =
    (trace : Trace) × (verdict : Verdict) × (w : World) × (sheet : List ℕ) × (trace_of (records_of bytes) ≡ Ok trace)
    × IsVerdict trace verdict w
    × IsSheetText trace.setup trace.rows w verdict sheet × Appends output output' (sheet_told is_json verdict sheet)
    × Keeps errors errors' × (status ≡ verdict_status verdict)

-- a row of the input is faulty: the first such row is told on the errors, with its sheet after the line, which starts
-- with that row and the fault; and nothing stands on the output
abbrev pub IsUnexplainedAnswer : List ℕ → KnownBytes → KnownBytes → KnownBytes → KnownBytes → ℕ → Type 0
IsUnexplainedAnswer bytes output output' errors errors' status =
    (fault : TraceFault) × (sheet : List ℕ) × (trace_of (records_of bytes) ≡ Err fault) × IsFormText fault sheet
    × Keeps output output'
    × Tells errors errors' (row_line fault ++ sheet) × (status ≡ 3)

-- the answer to `explain` with these bytes on the input; where a read fails, nothing stands on the output
abbrev pub IsExplainAnswer : Bool → List ℕ → KnownBytes → KnownBytes → KnownBytes → KnownBytes → ℕ → Type 0
IsExplainAnswer is_json bytes output output' errors errors' status =
    IsExplainedAnswer is_json bytes output output' errors errors' status
    ⊎ IsUnexplainedAnswer bytes output output' errors errors' status
    ⊎ IsStopAnswer bytes output output' errors errors' status

-- the answer to `explain --config` where the file holds these bytes: that they are a configuration stands on the
-- output; or their first refusal is told on the errors, with its sheet after the line, and nothing stands on the
-- output. A sheet is lines without controls, and one line unless the text is no TOML document
abbrev pub IsConfigExplainAnswer : List ℕ → KnownBytes → KnownBytes → KnownBytes → KnownBytes → ℕ → Type 0
IsConfigExplainAnswer bytes output output' errors errors' status =
    ((config : Configuration) × (sheet : List ℕ) × ReadsAs bytes (Ok config) × IsConfigText None sheet
    × Appends output output' sheet × Keeps errors errors' × (status ≡ 0))
    ⊎ ((fault : ConfigFault) × (sheet : List ℕ) × ReadsAs bytes (Err fault) × IsConfigText (Some fault) sheet
    × Keeps output output'
    × Tells errors errors' (refusal_line (Refusal.Config fault) ++ sheet) × (status ≡ 3))
    ⊎ IsStopped output output' errors errors' status

-- the answer to `explain --config`, where a FILE may be given, and `--json`: each is a bad word
abbrev pub IsConfigExplained : Bool → Bool → KnownBytes → KnownBytes → KnownBytes → KnownBytes → ℕ → Type 0
IsConfigExplained true is_json output output' errors errors' status =
    IsBadWord file_line output output' errors errors' status ⊎ IsShort output output' errors errors' status
IsConfigExplained false true output output' errors errors' status =
    IsBadWord json_line output output' errors errors' status ⊎ IsShort output output' errors errors' status
IsConfigExplained false false output output' errors errors' status =
    (bytes : List ℕ) × IsConfigExplainAnswer bytes output output' errors errors' status
