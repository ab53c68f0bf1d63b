-- What the program answers to `check` and to `upgrade`: the status, and what then stands on the output and on the
-- errors.
use Rattle.std.specs.Prelude.{◌≡◌, ◌≢◌, ◌⊎◌, ℕ, Bool, true, false, List, ◌++◌, Option, Some, None, Ok, Err, IsOk, codes}
use Rattle.std.specs.Prelude.{take}
use Rattle.std.specs.Str.{bytes_eq}
use Rattle.std.specs.Fmt.{decimal}
use Rattle.std.specs.Io.KnownBytes.{Appends, Keeps}
use Rattle.bully_world.specs.World.{World}
use Rattle.bully_rows.specs.declared.trace.TraceCause.{TraceCause}
use Rattle.bully_rows.specs.TraceText.{trace_cause_text}
use Rattle.bully_rows.specs.declared.trace.TraceFault.{TraceFault}
use Rattle.bully_trace.specs.declared.verdict.Verdict.{Verdict}
use Rattle.bully_rows.specs.Rows.{records_of, trace_of}
use Rattle.bully_rows.specs.Trace.{Trace, upgraded}
use Rattle.bully_rows.specs.TraceText.{trace_text}
use Rattle.bully_trace.specs.Verdict.{IsVerdict}
use Rattle.bully_trace.specs.VerdictText.{verdict_text}
use Rattle.bully_json.specs.Objects.{verdict_line}
use Rattle.bully.specs.declared.telling.Stop.{Stop}

-- the bytes that a writer holds, where they are known
abbrev pub KnownBytes : Type 0
KnownBytes = Option (List ℕ)

-- a part of the text from its front was written and nothing else; what is left out is what a failed write left out,
-- which a writer's bytes don't tell
abbrev pub Tells : KnownBytes → KnownBytes → List ℕ → Type 0
Tells old new text = (n : ℕ) × Appends old new (take n text)

abbrev pub verdict_status : Verdict → ℕ
verdict_status (Verdict.Lawful count) = 0
verdict_status (Verdict.Refused row why) = 1
verdict_status (Verdict.Differs row) = 1

-- the line of a fault of form
abbrev pub row_line : TraceFault → List ℕ
row_line fault =
    codes "bully: trace row " ++ decimal fault.row ++ codes ": " ++ trace_cause_text fault.cause ++ codes "\n"

-- what stops the program, where the cause is no fault of form
abbrev pub stop_of : TraceCause → Option Stop
stop_of TraceCause.BadHeader = None
stop_of TraceCause.BadRow = None
stop_of TraceCause.TooManyRows = None
stop_of TraceCause.Read = Some Stop.Read
stop_of TraceCause.Write = Some Stop.Write
stop_of TraceCause.OutOfMemory = Some Stop.OutOfMemory

abbrev pub stop_line : Stop → List ℕ
stop_line Stop.Read = codes "bully: Read\n"
stop_line Stop.Write = codes "bully: Write\n"
stop_line Stop.OutOfMemory = codes "bully: OutOfMemory\n"

-- a flag was given
abbrev pub is_given : Option (List ℕ) → Bool
is_given None = false
is_given (Some flag) = bytes_eq flag (codes "true")

-- the rows of the input have a verdict: it stands on the output
abbrev pub IsJudgedAnswer : List ℕ → KnownBytes → KnownBytes → KnownBytes → KnownBytes → ℕ → Type 0
IsJudgedAnswer bytes output output' errors errors' status =
    (trace : Trace) × (verdict : Verdict) × (w : World) × (trace_of (records_of bytes) ≡ Ok trace)
    × IsVerdict trace verdict w
    × Appends output output' (verdict_text trace.setup verdict w) × Keeps errors errors'
    × (status ≡ verdict_status verdict)

-- a row of the input is faulty: the first such row is told on the errors, and nothing stands on the output
abbrev pub IsFaultAnswer : List ℕ → KnownBytes → KnownBytes → KnownBytes → KnownBytes → ℕ → Type 0
IsFaultAnswer bytes output output' errors errors' status =
    (fault : TraceFault) × (trace_of (records_of bytes) ≡ Err fault) × Keeps output output'
    × Tells errors errors' (row_line fault) × (status ≡ 3)

-- reading, writing or memory failed: that is told on the errors; nothing is written before all rows were read
abbrev pub IsStopAnswer : List ℕ → KnownBytes → KnownBytes → KnownBytes → KnownBytes → ℕ → Type 0
IsStopAnswer bytes output output' errors errors' status =
    (stop : Stop) × (stop ≢ Stop.Write → Keeps output output')
    × (stop ≡ Stop.Write → IsOk (trace_of (records_of bytes)))
    × Tells errors errors' (stop_line stop) × (status ≡ 4)

-- no trace is taken from the input: a row of it is faulty, or something failed
abbrev pub IsUntaken : List ℕ → KnownBytes → KnownBytes → KnownBytes → KnownBytes → ℕ → Type 0
IsUntaken bytes output output' errors errors' status =
    IsFaultAnswer bytes output output' errors errors' status
    ⊎ IsStopAnswer bytes output output' errors errors' status

-- the answer to `check` with these bytes on the input
abbrev pub IsAnswer : List ℕ → KnownBytes → KnownBytes → KnownBytes → KnownBytes → ℕ → Type 0
IsAnswer bytes output output' errors errors' status =
    IsJudgedAnswer bytes output output' errors errors' status
    ⊎ IsUntaken bytes output output' errors errors' status

-- the rows of the input have a verdict: as an object it stands on the output
abbrev pub IsToolsAnswer : List ℕ → KnownBytes → KnownBytes → KnownBytes → KnownBytes → ℕ → Type 0
IsToolsAnswer bytes output output' errors errors' status =
    (trace : Trace) × (verdict : Verdict) × (w : World) × (trace_of (records_of bytes) ≡ Ok trace)
    × IsVerdict trace verdict w
    × Appends output output' (verdict_line trace.setup verdict w) × Keeps errors errors'
    × (status ≡ verdict_status verdict)

-- a word is told to be bad, and nothing is done
abbrev pub IsBadWord : List ℕ → KnownBytes → KnownBytes → KnownBytes → KnownBytes → ℕ → Type 0
IsBadWord line output output' errors errors' status = Keeps output output' × Tells errors errors' line × (status ≡ 2)

-- there is no memory for the words
abbrev pub IsShort : KnownBytes → KnownBytes → KnownBytes → KnownBytes → ℕ → Type 0
IsShort output output' errors errors' status = Keeps output output' × Tells errors errors' (stop_line Stop.OutOfMemory)
    × (status ≡ 4)

-- the answer to `check`, as JSON or not
abbrev pub IsCheckAnswer : Bool → List ℕ → KnownBytes → KnownBytes → KnownBytes → KnownBytes → ℕ → Type 0
IsCheckAnswer true bytes output output' errors errors' status =
    IsToolsAnswer bytes output output' errors errors' status
    ⊎ IsUntaken bytes output output' errors errors' status
IsCheckAnswer false bytes output output' errors errors' status = IsAnswer bytes output output' errors errors' status

-- the input means a trace: the text of the upgraded one stands on the output
abbrev pub IsUpgradedAnswer : List ℕ → KnownBytes → KnownBytes → KnownBytes → KnownBytes → ℕ → Type 0
IsUpgradedAnswer bytes output output' errors errors' status =
    (trace : Trace) × (trace_of (records_of bytes) ≡ Ok trace)
    × Appends output output' (trace_text (upgraded trace)) × Keeps errors errors' × (status ≡ 0)

-- the answer to `upgrade` with these bytes on the input
abbrev pub IsUpgradeAnswer : List ℕ → KnownBytes → KnownBytes → KnownBytes → KnownBytes → ℕ → Type 0
IsUpgradeAnswer bytes output output' errors errors' status =
    IsUpgradedAnswer bytes output output' errors errors' status
    ⊎ IsUntaken bytes output output' errors errors' status
