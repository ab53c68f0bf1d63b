-- How the text of a sheet starts.
use Rattle.std.specs.Prelude.{◌≡◌, ◌⊎◌, ℕ, false, List, [], ◌++◌, Option, Some, None, Result, MatchResult, codes}
use Rattle.std.specs.Fmt.{decimal}
use Rattle.bully_base.specs.Setup.{Setup}
use Rattle.bully_world.specs.State.{world_of}
use Rattle.bully_world.specs.World.{World, first_world}
use Rattle.bully_rows.specs.RecordsLeft.{EndsReading}
use Rattle.bully_rows.specs.Rows.{OfTrace}
use Rattle.bully_rows.specs.Trace.{Trace}
use Rattle.bully_rows.specs.TraceText.{line_of, row_fields, trace_cause_text}
use Rattle.bully_rows.specs.declared.trace.Row.{Row}
use Rattle.bully_rows.specs.declared.trace.TraceFault.{TraceFault}
use Rattle.bully_trace.specs.Judging.{HasJudged}
use Rattle.bully_trace.specs.Verdict.{IsJudged}
use Rattle.bully_trace.specs.VerdictText.{verdict_head}
use Rattle.bully_trace.specs.declared.verdict.Verdict.{Verdict}
use Rattle.bully_account.specs.Accounts.{AccountState, StopsAt}
use Rattle.bully_account.specs.RowsOf.{IsRowAt}
use Rattle.bully_account.specs.TraceReport.{Explains}
use Rattle.bully_account.specs.declared.account.Stop.{Stop}
use Rattle.bully_account.specs.declared.showing.NodeSheet.{NodeSheet}
use Rattle.bully_explain.specs.Differing.{decided_text}
use Rattle.bully_draft.specs.Drafted.{Drafted}
use Rattle.bully_draft.specs.Shown.{row_shown}

-- the text starts with this part
abbrev pub Begins : List ℕ → List ℕ → Type 0
Begins text part = (behind : List ℕ) × (text ≡ part ++ behind)

-- where a row stands: its number, and the line at which it starts
abbrev pub place_text : ℕ → ℕ → List ℕ
place_text number line = codes "row " ++ decimal number ++ codes " (line " ++ decimal line ++ codes "): "

-- the head of the sheet of these rows, after which the group is so: the line of a lawful verdict; else the line of the
-- row that decided, with its place, and how it decided
abbrev pub IsDecided : Setup → List Row → World → Verdict → ℕ → List ℕ → Type 0
IsDecided setup rows w verdict number text =
    (row : Row) × (line : ℕ) × IsRowAt rows number row
    × Begins text (place_text number line ++ line_of (row_fields row) ++ decided_text setup w verdict row)

abbrev pub IsSheetText : Setup → List Row → World → Verdict → List ℕ → Type 0
IsSheetText setup rows w (Verdict.Lawful count) text = Begins text (verdict_head (Verdict.Lawful count))
IsSheetText setup rows w (Verdict.Refused number why) text =
    IsDecided setup rows w (Verdict.Refused number why) number text
IsSheetText setup rows w (Verdict.Differs number) text = IsDecided setup rows w (Verdict.Differs number) number text

-- the sheet of a fault of form: the row with its place, as fields are shown, and the fault
abbrev pub IsRowShown : List ℕ → Type 0
IsRowShown place =
    (place ≡ codes ": there is none") ⊎ ((line : ℕ) × (fields : List (List ℕ))
    × (place ≡ codes " (line " ++ decimal line ++ codes "): " ++ row_shown fields))

abbrev pub form_head : TraceFault → List ℕ → List ℕ
form_head fault place =
    codes "row " ++ decimal fault.row ++ place ++ codes "\n" ++ trace_cause_text fault.cause ++ codes ": "

abbrev pub IsFormText : TraceFault → List ℕ → Type 0
IsFormText fault text = (place : List ℕ) × IsRowShown place × Begins text (form_head fault place)

-- the same, appended to what stood there, unless memory is wanting
pub record AppendsForm (fault : TraceFault) (old new : Drafted) : Type 0 where
  pub memory : new.has_failed ≡ false → old.has_failed ≡ false
  pub text : new.has_failed ≡ false
      → (place : List ℕ) × IsRowShown place × (new.text ≡ old.text ++ form_head fault place)

-- the sheet of a trace with this verdict: what it shows of each node, and its text
pub record IsSheet (verdict : Verdict) (sheets : List NodeSheet) (text : List ℕ) (trace : Trace) : Type 0 where
  pub explains : Explains verdict sheets trace
  pub begins : IsSheetText trace.setup trace.rows (world_of explains.world) verdict text

-- where the bytes are known: that of the trace that they mean; or that of the fault that ends their reading
abbrev pub IsSheetOf : Option (List ℕ) → List NodeSheet → List ℕ → Result Verdict TraceFault → Type 0
IsSheetOf known sheets text told =
    MatchResult told (λ verdict. OfTrace known (IsSheet verdict sheets text)) (λ fault. EndsReading known fault
    × IsFormText fault text)

-- ---- of an account

-- the row that decided with its place, and how it did by this verdict
abbrev pub stop_text : Setup → World → Verdict → Option Stop → List ℕ
stop_text setup w verdict None = []
stop_text setup w verdict (Some stop) =
    place_text stop.number stop.line ++ line_of (row_fields stop.row) ++ decided_text setup w verdict stop.row

-- the head by this verdict, where this row decided
abbrev pub head_text : Setup → World → Verdict → Option Stop → List ℕ
head_text setup w (Verdict.Lawful count) stop = verdict_head (Verdict.Lawful count)
head_text setup w (Verdict.Refused number why) stop = stop_text setup w (Verdict.Refused number why) stop
head_text setup w (Verdict.Differs number) stop = stop_text setup w (Verdict.Differs number) stop

-- the text starts with the head of what the account came to
pub record BeginsSheet (account : AccountState) (text : List ℕ) : Type 0 where
  pub verdict : Verdict
  pub judged : (setup : Setup) (rows : List Row) → HasJudged setup rows account.judge
      → IsJudged setup (first_world setup) 0 2 rows verdict (world_of account.judge.world)
  pub stops : StopsAt account.judge.stopped account.stop
  pub begins : Begins text (head_text account.judge.world.setup (world_of account.judge.world) verdict account.stop)
