-- The records that a reader still gives.
use Rattle.std.specs.Prelude.{◌≡◌, ◌≢◌, ℕ, ◌+◌, ◌≤◌, Bool, true, false, List, [], ◌∷◌, ◌++◌, length, Option, Some, None}
use Rattle.std.specs.Prelude.{Ok, IfSome, ⊤, option_map}
use Rattle.csv.specs.Reading.{Ready, default_config, has_failed, is_flexible, reader_config, reader_state, reader_trim}
use Rattle.csv.specs.Reading.{records_from, source_of}
use Rattle.csv.specs.declared.reader.Reader.{Reader}
use Rattle.csv.specs.declared.reader.Trim.TheVariants as trim
use Rattle.bully_rows.specs.declared.TheConstants.{ROWS_MAX}
use Rattle.bully_rows.specs.declared.header.Header.{Header}
use Rattle.bully_rows.specs.declared.trace.Row.{Row}
use Rattle.bully_rows.specs.declared.trace.TraceCause.{TraceCause}
use Rattle.bully_rows.specs.declared.trace.TraceFault.{TraceFault}
use Rattle.bully_rows.specs.Headers.{Record, header_of}
use Rattle.bully_rows.specs.Rows.{IsFirstFault, IsReadAtItsRow, is_of_form, records_of, rows_from}

-- the reader takes the records of a text as they stand, one a read
abbrev pub IsPlain : {R : Type 0} → Reader R → Type 0
IsPlain reader = (reader_config reader ≡ default_config) × (reader_trim reader ≡ trim.None) × Ready reader
    × (is_flexible reader ≡ true)

-- it does so where no read of it has failed
abbrev pub ReadsPlain : {R : Type 0} → Reader R → Type 0
ReadsPlain reader = has_failed reader ≡ false → IsPlain reader

-- the records that the reader still gives, where its bytes are known and no read of it has failed
abbrev pub records_left : {R : Type 0} → (R → Option (List ℕ)) → Reader R → Option (List Record)
records_left remaining reader =
    option_map (λ bytes. records_from default_config (length bytes + 1) (reader_state reader) bytes)
    (source_of remaining reader)

-- a read takes the first of the records, or finds none
abbrev pub Takes : Option (List Record) → Option (List Record) → Bool → Record → Type 0
Takes None after found fields = ⊤
Takes (Some []) after found fields = found ≡ false
Takes (Some (first ∷ rest)) after found fields = (found ≡ true) × (fields ≡ first) × (after ≡ Some rest)

-- how far a reader of records has come: the number of the record that it read last, 0 before the first; its fields; and
-- the records that are still to be read, where the reader's bytes are known
pub record ReadSoFar : Type 0 where
  pub number : ℕ
  pub fields : Record
  pub records : Option (List Record)

-- nothing was read of a text
pub record IsUnread (known : Option (List ℕ)) (reader : ReadSoFar) : Type 0 where
  pub number : reader.number ≡ 0
  pub records : reader.records ≡ option_map records_of known

-- what is still to be read after the header of a trace: what it tells, the number of the row that was read last, and
-- the records, where the reader's bytes are known
pub record RowsLeft : Type 0 where
  pub header : Header
  pub number : ℕ
  pub records : Option (List Record)

-- the rows that a reader has left of a trace with this header
abbrev pub rows_left : Header → ReadSoFar → RowsLeft
rows_left header reader = record { header = header; number = reader.number; records = reader.records }

-- of these records the first and then these rows were taken, without a fault, and the others are left
pub record HasTaken (records : List Record) (rows : List Row) (left : RowsLeft) : Type 0 where
  pub first : Record
  pub taken : List Record
  pub rest : List Record
  pub all : records ≡ first ∷ (taken ++ rest)
  pub told : header_of first ≡ Some left.header
  pub counted : length taken + 1 ≡ left.number
  pub mean : rows_from left.header 2 taken ≡ Ok rows
  pub behind : left.records ≡ Some rest

-- these rows were read of a text
pub record HasRead (known : Option (List ℕ)) (rows : List Row) (left : RowsLeft) : Type 0 where
  pub number : length rows + 1 ≡ left.number
  pub within : left.number ≤ ROWS_MAX + 1
  pub text : IfSome known (λ bytes. HasTaken (records_of bytes) rows left)

-- a fault that ends the reading of a text
pub record EndsReading (known : Option (List ℕ)) (fault : TraceFault) : Type 0 where
  pub first : IsFirstFault known fault
  pub behind : IsReadAtItsRow known fault
  pub read : fault.cause ≢ TraceCause.Write
  pub memory : fault.cause ≡ TraceCause.OutOfMemory → fault.row ≡ 0

-- a fault of reading or of memory
abbrev pub IsOutside : TraceFault → Type 0
IsOutside fault = (is_of_form fault.cause ≡ false) × (fault.cause ≢ TraceCause.Write)
    × (fault.cause ≡ TraceCause.OutOfMemory → fault.row ≡ 0)
