-- A trace that is followed row by row.
use Rattle.std.specs.Prelude.{◌≡◌, ◌⊎◌, ℕ, true, List, IsSome, Option, Some, Result, Ok, Err}
use Rattle.bully_rows.specs.declared.header.Header.{Header}
use Rattle.bully_rows.specs.declared.trace.Row.{Row}
use Rattle.bully_rows.specs.declared.trace.TraceFault.{TraceFault}
use Rattle.bully_rows.specs.declared.trace_feeding.BehindHeader.{BehindHeader}
use Rattle.bully_rows.specs.RecordsLeft.{EndsReading, HasRead, ReadSoFar, RowsLeft}
use Rattle.bully_rows.specs.declared.trace.TraceCause.{TraceCause}
use Rattle.bully_rows.specs.Rows.{IsOfWriting, IsTraceOf, fault_at}
use Rattle.bully_rows.specs.Feeding.{IsTakenToEnd, RefusesNext, TakesNext}
use Rattle.bully_rows.specs.Trace.{headed}
use Rattle.bully_world.specs.World.{World}
use Rattle.bully_trace.specs.declared.verdict.Verdict.{Verdict}
use Rattle.bully_trace.specs.OneRow.{decides}
use Rattle.bully_trace.specs.Verdict.{IsVerdict}
use Rattle.bully_account.specs.Accounts.{HasTakenBehind}
use Rattle.bully_follow.specs.declared.following.Stop.{Stop}
use Rattle.bully_follow.specs.declared.followed.Followed.{Followed}

-- the rows of a trace with this header were taken
abbrev pub HasFollowed : Header → List Row → Followed → Type 0
HasFollowed header rows w = HasTakenBehind header rows w.account

-- the header starts what follows, and each row after it is taken
abbrev pub TakesFollowed : ReadSoFar → Option (BehindHeader Followed) → Option (BehindHeader Followed) → Type 0
TakesFollowed = TakesNext HasFollowed

-- rows of a trace with this header have this verdict
abbrev pub AreJudgedAs : Header → List Row → Verdict → Type 0
AreJudgedAs header rows verdict = (w : World) × IsVerdict (headed header rows) verdict w

-- why no further row is taken: the one that was taken last decided; it isn't taken, or what it changed can't be told
abbrev pub Refuses : ReadSoFar → Option (BehindHeader Followed) → Option (BehindHeader Followed) → Stop → Type 0
Refuses reader before after (Stop.Decided verdict) =
    TakesFollowed reader before after × (decides verdict reader.number ≡ true)
    × ((begun : BehindHeader Followed) (header : Header) (rows : List Row) → after ≡ Some begun
    → HasFollowed header rows begun.sink → AreJudgedAs header rows verdict)
Refuses reader before after (Stop.Fault fault) = RefusesNext reader before fault ⊎ IsOfWriting fault

-- the text means a trace with this verdict; or its first rows have it, and the last of them decided
abbrev pub IsFollowedAs : Option (List ℕ) → Verdict → Type 0
IsFollowedAs known verdict =
    ((header : Header) × (rows : List Row) × IsTraceOf known (headed header rows) × AreJudgedAs header rows verdict)
    ⊎ ((left : RowsLeft) × (rows : List Row) × HasRead known rows left × AreJudgedAs left.header rows verdict
    × (decides verdict left.number ≡ true))

-- the text ends reading, or what is told can't be written
abbrev pub IsFollowFault : Option (List ℕ) → TraceFault → Type 0
IsFollowFault known fault = EndsReading known fault ⊎ IsOfWriting fault

-- how the taking of a text ended, with what followed it: at its end; after the row that decided; or by a fault
abbrev pub IsEnded : Option (List ℕ) → Result (Unit {0}) Stop → Option Followed → Type 0
IsEnded known (Ok u) followed = IsTakenToEnd HasFollowed known followed
IsEnded known (Err (Stop.Decided verdict)) followed =
    IsSome followed × (left : RowsLeft) × (rows : List Row) × HasRead known rows left
    × AreJudgedAs left.header rows verdict × (decides verdict left.number ≡ true)
IsEnded known (Err (Stop.Fault fault)) followed = IsFollowFault known fault

-- the fault that ended it; that of no header where another thing did
abbrev pub fault_in : Result (Unit {0}) Stop → TraceFault
fault_in (Ok u) = fault_at 1 TraceCause.BadHeader
fault_in (Err (Stop.Decided verdict)) = fault_at 1 TraceCause.BadHeader
fault_in (Err (Stop.Fault fault)) = fault
