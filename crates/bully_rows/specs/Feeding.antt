-- Rows that are taken one by one, as they are read: any rows, and those of a trace after its header.
use Rattle.std.specs.Prelude.{◌≡◌, ◌⊎◌, ◌≤◌, ◌+◌, ◌++◌, ◌∷◌, ℕ, zero, suc, true, false, [], List, length, Option, None}
use Rattle.std.specs.Prelude.{Some, MatchOption}
use Rattle.bully_rows.specs.declared.TheConstants.{ROWS_MAX}
use Rattle.bully_rows.specs.declared.header.Header.{Header}
use Rattle.bully_rows.specs.declared.trace.Row.{Row}
use Rattle.bully_rows.specs.declared.trace.TraceCause.{TraceCause}
use Rattle.bully_rows.specs.declared.trace.TraceFault.{TraceFault}
use Rattle.bully_rows.specs.declared.trace_feeding.BehindHeader.{BehindHeader}
use Rattle.bully_rows.specs.Headers.{Record, header_of}
use Rattle.bully_rows.specs.RecordsLeft.{EndsReading, HasRead, IsOutside, IsUnread, ReadSoFar, Takes, rows_left}
use Rattle.bully_rows.specs.Rows.{IsTraceOf, fault_at, no_memory, row_of}
use Rattle.bully_rows.specs.Trace.{headed}

-- ---- any rows

-- a read takes the next row
pub record IsNext (reader now : ReadSoFar) : Type 0 where
  pub takes : Takes reader.records now.records true now.fields
  pub within : reader.number ≤ ROWS_MAX
  pub number : now.number ≡ reader.number + 1

-- a read finds no row
abbrev pub IsLast : ReadSoFar → ReadSoFar → Type 0
IsLast reader now = Takes reader.records now.records false now.fields

-- a read is refused
pub record IsUnreadable (reader : ReadSoFar) (fault : TraceFault) : Type 0 where
  pub why : IsOutside fault ⊎ ((fault.cause ≡ TraceCause.TooManyRows) × (reader.number ≡ ROWS_MAX + 1))
  pub first : (known : Option (List ℕ)) → IsUnread known reader → EndsReading known fault
  pub later : (known : Option (List ℕ)) (rows : List Row) (header : Header)
      → HasRead known rows (rows_left header reader) → EndsReading known fault

-- so many rows were read, one after the other, and each was taken as this says
abbrev pub AreTakenBy : {S : Type 0} → (ReadSoFar → S → S → Type 0) → ℕ → ReadSoFar → S → ReadSoFar → S → Type 0
AreTakenBy takes zero reader s now after = (now ≡ reader) × (after ≡ s)
AreTakenBy {S = S} takes (suc n) reader s now after =
    (mid : ReadSoFar) × (between : S) × AreTakenBy takes n reader s mid between × IsNext mid now
    × takes now between after

-- the next row isn't taken: it can't be read, which another fault tells, and then nothing changes; or it is refused
abbrev pub StopsNext : {S F : Type 0} → (ReadSoFar → S → S → F → Type 0) → (TraceFault → F → Type 0) → ReadSoFar → S
    → ReadSoFar → S → F → Type 0
StopsNext refuses tells reader s now after told =
    ((fault : TraceFault) × IsUnreadable reader fault × tells fault told × (after ≡ s))
    ⊎ (IsNext reader now × refuses now s after told)

-- all rows were taken, up to the end
abbrev pub AllTaken : {S : Type 0} → (ReadSoFar → S → S → Type 0) → ReadSoFar → S → ReadSoFar → S → Type 0
AllTaken takes reader s now after = (n : ℕ) × (mid : ReadSoFar) × AreTakenBy takes n reader s mid after × IsLast mid now

-- rows were taken, and the next one isn't
abbrev pub StopsBehind : {S F : Type 0} → (ReadSoFar → S → S → Type 0) → (ReadSoFar → S → S → F → Type 0)
    → (TraceFault → F → Type 0)
    → ReadSoFar → S → ReadSoFar → S → F → Type 0
StopsBehind {S = S} takes refuses tells reader s now after told =
    (n : ℕ) × (mid : ReadSoFar) × (between : S) × AreTakenBy takes n reader s mid between
    × StopsNext refuses tells mid between now after told

-- ---- those of a trace: P says that these rows of a trace with this header were taken

-- what the fields of a row mean in it
abbrev pub row_in : Header → Record → Option Row
row_in header fields = row_of header.version header.setup fields

-- what takes them starts after a header of these fields
abbrev pub Begins : {S : Type 0} → (Header → List Row → S → Type 0) → Record → BehindHeader S → Type 0
Begins P fields b = (header_of fields ≡ Some b.header) × P b.header [] b.sink

-- why it doesn't: the fields are no header, or there is no memory
abbrev pub IsNoStart : Record → TraceFault → Type 0
IsNoStart fields fault = ((header_of fields ≡ None) × (fault ≡ fault_at 1 TraceCause.BadHeader)) ⊎ (fault ≡ no_memory)

-- the row read last, which is this one, goes on after those that were taken
abbrev pub GoesOn : {S : Type 0} → (Header → List Row → S → Type 0) → ReadSoFar → Row → S → S → Type 0
GoesOn P reader row s after =
    (header : Header) (rows : List Row) → row_in header reader.fields ≡ Some row → length rows + 2 ≡ reader.number
    → P header rows s → P header (rows ++ row ∷ []) after

-- it is a row of this trace, and is taken
abbrev pub TakesRow : {S : Type 0} → (Header → List Row → S → Type 0) → ReadSoFar → BehindHeader S → BehindHeader S
    → Type 0
TakesRow P reader b after =
    (after.header ≡ b.header) × (row : Row) × (row_in b.header reader.fields ≡ Some row)
    × GoesOn P reader row b.sink after.sink

-- why it isn't: it has no form, or there is no memory
abbrev pub IsNoRow : Header → ReadSoFar → TraceFault → Type 0
IsNoRow header reader fault =
    ((row_in header reader.fields ≡ None) × (fault ≡ fault_at reader.number TraceCause.BadRow)) ⊎ (fault ≡ no_memory)

-- the header starts what takes the rows, and each row after it is taken
abbrev pub TakesNext : {S : Type 0} → (Header → List Row → S → Type 0) → ReadSoFar → Option (BehindHeader S)
    → Option (BehindHeader S) → Type 0
TakesNext P reader None after = MatchOption after ⊥ (Begins P reader.fields)
TakesNext P reader (Some b) after = MatchOption after ⊥ (TakesRow P reader b)

-- why it isn't
abbrev pub RefusesNext : {S : Type 0} → ReadSoFar → Option (BehindHeader S) → TraceFault → Type 0
RefusesNext reader None fault = IsNoStart reader.fields fault
RefusesNext reader (Some b) fault = IsNoRow b.header reader fault

-- what was read of a text was taken: nothing of it yet, or the rows after its header
abbrev pub IsTakenSoFar : {S : Type 0} → (Header → List Row → S → Type 0) → Option (List ℕ) → ReadSoFar
    → Option (BehindHeader S) → Type 0
IsTakenSoFar P known reader None = IsUnread known reader
IsTakenSoFar P known reader (Some b) = (rows : List Row) × HasRead known rows (rows_left b.header reader)
    × P b.header rows b.sink

-- all rows of a text were taken
abbrev pub IsWhollyTaken : {S : Type 0} → (Header → List Row → S → Type 0) → Option (List ℕ) → S → Type 0
IsWhollyTaken P known s = (header : Header) × (rows : List Row) × IsTraceOf known (headed header rows)
    × (length rows ≤ ROWS_MAX) × P header rows s

-- a text was read to its end: it has no header, or all its rows were taken
abbrev pub IsTakenToEnd : {S : Type 0} → (Header → List Row → S → Type 0) → Option (List ℕ) → Option S → Type 0
IsTakenToEnd P known None = EndsReading known (fault_at 1 TraceCause.BadHeader)
IsTakenToEnd P known (Some s) = IsWhollyTaken P known s
