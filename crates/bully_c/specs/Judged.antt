-- What is told of a trace, and of a table.
use Rattle.std.specs.Prelude.{◌==◌, if◌then◌else◌, ◌≡◌, ◌≢◌, ◌⊎◌, ◌+◌, ◌↔◌, ℕ, List, [], Some, All, Contains, length}
use Rattle.bully_base.specs.NodeSet.{IsFallingBelow}
use Rattle.bully_base.specs.Setup.{IsNode, IsSetup, Setup}
use Rattle.bully_base.specs.declared.TheConstants.{NODES_MAX}
use Rattle.bully_rows.specs.Rows.{IsFirstFault, OfTrace}
use Rattle.bully_rows.specs.declared.trace.TraceFault.{TraceFault}
use Rattle.bully_table.specs.Planning.{IsFewest, moves_from, planned}
use Rattle.bully_trace.specs.Recorded.{RecordedAgreement}
use Rattle.bully_trace.specs.Verdict.{AgreesAfterEachRow, IsLawfulCount}
use Rattle.bully_trace.specs.VerdictText.{IsJudgedAs}
use Rattle.bully_trace.specs.declared.verdict.Verdict.{Verdict}
use Rattle.bully_c.specs.Arguments.{AreGiven, IsSetupRefusal, RefusesGiven, table_given}
use Rattle.bully_calls.specs.Events.{refusal_number}
use Rattle.bully_c.specs.Numbers.{trace_number}
use Rattle.bully_c.specs.declared.status.TheConstants.{BAD_NODE, NO_MEMBER, OK, OUT_OF_MEMORY, TABLE_LENGTH}
use Rattle.bully_c.specs.declared.traces.CVerdict.{CVerdict}

-- ---- traces

abbrev pub verdict_numbers : Verdict → CVerdict
verdict_numbers (Verdict.Lawful count) = record { kind = 0; number = count; cause = OK }
verdict_numbers (Verdict.Refused row why) = record { kind = 1; number = row; cause = refusal_number why }
verdict_numbers (Verdict.Differs row) = record { kind = 2; number = row; cause = OK }

-- the verdict on the trace that these bytes are, with all that `check` promises of one
pub record IsVerdictOn (bytes : List ℕ) (found : Verdict) : Type 0 where
  pub judged : IsJudgedAs (Some bytes) found (λ text. Unit {0})
  pub lawful : OfTrace (Some bytes) (λ trace. IsLawfulCount trace found)
  pub agreement : OfTrace (Some bytes) (λ trace. AgreesAfterEachRow trace found)
  pub recorded : OfTrace (Some bytes) (λ trace. RecordedAgreement trace found)

-- the row of a fault of form; 0 where memory was wanted
abbrev pub row_told : TraceFault → ℕ
row_told fault = if trace_number fault.cause == OUT_OF_MEMORY then 0 else fault.row

abbrev pub IsCheck : List ℕ → CVerdict → ℕ → CVerdict → Type 0
IsCheck bytes before status after =
    ((found : Verdict) × (status ≡ OK) × (after ≡ verdict_numbers found) × IsVerdictOn bytes found)
    ⊎ ((fault : TraceFault) × (status ≡ trace_number fault.cause) × (after ≡ record before { number = row_told fault })
    × IsFirstFault (Some bytes) fault)

-- ---- tables

-- the set of these nodes
pub record IsSetOf (numbers set : List ℕ) : Type 0 where
  pub falling : IsFallingBelow (NODES_MAX + 1) set
  pub same : (j : ℕ) → Contains set j ↔ Contains numbers j

-- the table over these nodes, and how many partitions change their owner
pub record IsPlannedTable (s : Setup) (numbers old owners : List ℕ) (moves : ℕ) : Type 0 where
  pub within : IsSetup s
  pub nodes : All (IsNode s) numbers
  pub old_is : AreGiven s old
  pub members : List ℕ
  pub is : IsSetOf numbers members
  pub planned_is : owners ≡ planned s (table_given old) members
  pub fewest : IsFewest s (table_given old) owners members
  pub moves_is : moves ≡ moves_from s (table_given old) owners

-- why there is none
abbrev pub RefusesTable : Setup → List ℕ → List ℕ → ℕ → ℕ → Type 0
RefusesTable s numbers old room status =
    IsSetupRefusal s status
    ⊎ ((status ≡ BAD_NODE) × IsSetup s × ¬ All (IsNode s) numbers)
    ⊎ ((status ≡ TABLE_LENGTH) × IsSetup s × All (IsNode s) numbers × (room ≢ s.partitions))
    ⊎ (IsSetup s × All (IsNode s) numbers × (room ≡ s.partitions) × RefusesGiven s old status)
    ⊎ ((status ≡ NO_MEMBER) × IsSetup s × (room ≡ s.partitions) × AreGiven s old × (numbers ≡ []))
    ⊎ ((status ≡ OUT_OF_MEMORY) × IsSetup s × All (IsNode s) numbers × (room ≡ s.partitions) × AreGiven s old)

abbrev pub IsTable : Setup → List ℕ → List ℕ → List ℕ → ℕ → ℕ → List ℕ → ℕ → Type 0
IsTable s numbers old before moves_before status owners moves =
    ((status ≡ OK) × IsPlannedTable s numbers old owners moves)
    ⊎ (RefusesTable s numbers old (length before) status × (owners ≡ before) × (moves ≡ moves_before))
