-- What the rows of a trace came to.
use Rattle.std.specs.Prelude.{◌≡◌, ℕ, ◌-◌, List, length, take, Option, Some, None, IfSome, IsSomeAnd}
use Rattle.bully_base.specs.Setup.{Setup}
use Rattle.bully_rows.specs.declared.header.Header.{Header}
use Rattle.bully_rows.specs.declared.trace.Row.{Row}
use Rattle.bully_rows.specs.Feeding.{IsTakenToEnd, IsWhollyTaken}
use Rattle.bully_trace.specs.declared.verdict.Verdict.{Verdict}
use Rattle.bully_trace.specs.Judging.{HasJudged, JudgeState}
use Rattle.bully_account.specs.declared.account.Stop.{Stop}
use Rattle.bully_account.specs.Remembered.{Remembered}
use Rattle.bully_account.specs.RowsOf.{AreRemembered, IsRowAt}

-- the judge that took the rows, the row that decided, and what is remembered of each node's rows, from node 1 on
pub record AccountState : Type 0 where
  pub judge : JudgeState
  pub stop : Option Stop
  pub memories : List Remembered

-- the number of the row that decided
abbrev pub number_in : Verdict → Option ℕ
number_in (Verdict.Lawful count) = None
number_in (Verdict.Refused number why) = Some number
number_in (Verdict.Differs number) = Some number

-- a row is kept exactly if the judge stopped, and it is the one that it stopped at
abbrev pub StopsAt : Option Verdict → Option Stop → Type 0
StopsAt None stop = stop ≡ None
StopsAt (Some verdict) stop = IsSomeAnd stop (λ s. number_in verdict ≡ Some s.number)

-- what is so of each account
pub record IsAccount (judge : JudgeState) (stop : Option Stop) (memories : List Remembered) : Type 0 where
  pub stops : StopsAt judge.stopped stop
  pub count : length memories ≡ judge.world.setup.nodes

-- the rows before the one that decided; all of them where none did
abbrev pub rows_before : Option Stop → List Row → List Row
rows_before None rows = rows
rows_before (Some stop) rows = take (stop.number - 2) rows

-- the account of these rows: the judge took them, the row that decided is one of them, and what is remembered is that
-- of the rows before it
pub record HasTaken (setup : Setup) (rows : List Row) (account : AccountState) : Type 0 where
  pub judged : HasJudged setup rows account.judge
  pub decided : IfSome account.stop (λ s. IsRowAt rows s.number s.row)
  pub remembered : AreRemembered setup (rows_before account.stop rows) 1 account.memories

-- the same of the rows of a trace with this header
abbrev pub HasTakenBehind : Header → List Row → AccountState → Type 0
HasTakenBehind header rows account = HasTaken header.setup rows account × (account.judge.version ≡ header.version)

-- all rows of a text were taken
abbrev pub AreAllTaken : Option (List ℕ) → AccountState → Type 0
AreAllTaken = IsWhollyTaken HasTakenBehind

-- a text was read to its end: it has no header, or all its rows were taken
abbrev pub AreTakenToEnd : Option (List ℕ) → Option AccountState → Type 0
AreTakenToEnd = IsTakenToEnd HasTakenBehind
