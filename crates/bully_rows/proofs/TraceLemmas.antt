-- A trace, from its header and the rows behind it, as far as it was read.
use Rattle.std.proofs.Common.{◌≡◌, ◌∙◌, ◌+◌, ◌≤◌, ◌<◌, ◌++◌, arith, Bool, true, false, ℕ, List, [], ◌∷◌, Option, Some, None, Ok, Err, refl, sym, ap, append_assoc, IfSome, IsOk, option_map, append-nil, length-append}
use Rattle.bully_rows.specs.declared.TheConstants.{ROWS_MAX}
use Rattle.bully_rows.specs.declared.header.Header.{Header}
use Rattle.bully_rows.specs.declared.trace.Row.{Row}
use Rattle.bully_rows.specs.declared.trace.TraceCause.{TraceCause}
use Rattle.bully_rows.specs.declared.trace.TraceFault.{TraceFault}
use Rattle.bully_rows.specs.Headers.{Record, header_of}
use Rattle.bully_rows.specs.Rows.{IsBehind, IsTraceOf, fault_at, is_of_form, no_memory, read_as, records_of, row_of, rows_from, trace_of}
use Rattle.bully_rows.specs.RecordsLeft.{EndsReading, HasRead, HasTaken, IsOutside, IsUnread, ReadSoFar, RowsLeft, Takes, rows_left}
use Rattle.bully_rows.specs.Trace.{headed}
use Rattle.bully_rows.proofs.RowsLemmas.{bad-first, good-first, late-first, rows-behind}

pub header-first : (header : Header) (first : Record) (rest : List Record) → header_of first ≡ Some header
    → trace_of (first ∷ rest) ≡ read_as (headed header) (rows_from header 2 rest)
header-first header first rest e = rw (e, trace_of) refl

-- a read that found a record, and one that found none
took : (rest : List Record) (after : Option (List Record)) (found : Bool) (fields : Record) → Takes (Some rest) after found fields → found ≡ true
    → (more : List Record) × (rest ≡ fields ∷ more) × (after ≡ Some more)
took [] after found fields takes is = cc (takes, is)
took (first ∷ more) after found fields takes is = (more, ap (λ f. f ∷ more) (sym takes.1), takes.2)

ended : (rest : List Record) (after : Option (List Record)) (found : Bool) (fields : Record) → Takes (Some rest) after found fields → found ≡ false → rest ≡ []
ended [] after found fields takes is = refl
ended (first ∷ more) after found fields takes is = cc (takes.0, is)

-- what the trace comes to is said by the records that are left
trace-left : (records : List Record) (rows : List Row) (left : RowsLeft) (t : HasTaken records rows left)
    → trace_of records ≡ read_as (headed left.header) (read_as (λ xs. rows ++ xs) (rows_from left.header (left.number + 1) t.rest))
trace-left records rows left t =
    ap trace_of t.all ∙ header-first left.header t.first (t.taken ++ t.rest) t.told
    ∙ ap (read_as (headed left.header)) (rows-behind left.header 2 (left.number + 1) t.taken t.rest rows (omega (arith, t.counted)) t.mean)

-- the end of the text
pub read-end : (known : Option (List ℕ)) (rows : List Row) (left : RowsLeft) (after : Option (List Record)) (found : Bool) (fields : Record)
    → HasRead known rows left → Takes left.records after found fields → found ≡ false → IsTraceOf known (headed left.header rows)
read-end None rows left after found fields read takes is = tt
read-end (Some bytes) rows left after found fields read takes is =
    let t = read.text in
    let end = ended t.rest after found fields (rw t.behind at takes) is in
    trace-left (records_of bytes) rows left t ∙ rw end (ap (λ xs. Ok (headed left.header xs)) (append-nil rows))

-- a fault of form at the row behind those that were read
fault-ends : (known : Option (List ℕ)) (fault : TraceFault) → is_of_form fault.cause ≡ true → IfSome known (λ bytes. trace_of (records_of bytes) ≡ Err fault)
    → EndsReading known fault
fault-ends known fault form is = record {
  first = λ _. is;
  behind = λ e. absurd (cc (form, ap is_of_form e));
  read = λ e. absurd (cc (form, ap is_of_form e));
  memory = λ e. absurd (cc (form, ap is_of_form e));
}

-- a row too many
pub read-late : (known : Option (List ℕ)) (rows : List Row) (left : RowsLeft) (after : Option (List Record)) (found : Bool) (fields : Record)
    → HasRead known rows left → Takes left.records after found fields → found ≡ true → ROWS_MAX + 1 < left.number + 1
    → EndsReading known (fault_at (left.number + 1) TraceCause.TooManyRows)
read-late known rows left after found fields read takes is late =
    fault-ends known (fault_at (left.number + 1) TraceCause.TooManyRows) refl (by_text known read)
  where
    by_text : (known : Option (List ℕ)) → HasRead known rows left
        → IfSome known (λ bytes. trace_of (records_of bytes) ≡ Err (fault_at (left.number + 1) TraceCause.TooManyRows))
    by_text None read = tt
    by_text (Some bytes) read =
        let t = read.text in
        let (more, rest, after) = took t.rest after found fields (rw t.behind at takes) is in
        trace-left (records_of bytes) rows left t ∙ rw rest (rw (late-first left.header (left.number + 1) fields more late) refl)

-- a row of no form
pub read-bad : (known : Option (List ℕ)) (rows : List Row) (left : RowsLeft) (after : Option (List Record)) (found : Bool) (fields : Record)
    → HasRead known rows left → Takes left.records after found fields → found ≡ true → left.number + 1 ≤ ROWS_MAX + 1 → row_of left.header.version left.header.setup fields ≡ None
    → EndsReading known (fault_at (left.number + 1) TraceCause.BadRow)
read-bad known rows left after found fields read takes is low none =
    fault-ends known (fault_at (left.number + 1) TraceCause.BadRow) refl (by_text known read)
  where
    by_text : (known : Option (List ℕ)) → HasRead known rows left
        → IfSome known (λ bytes. trace_of (records_of bytes) ≡ Err (fault_at (left.number + 1) TraceCause.BadRow))
    by_text None read = tt
    by_text (Some bytes) read =
        let t = read.text in
        let (more, rest, after) = took t.rest after found fields (rw t.behind at takes) is in
        trace-left (records_of bytes) rows left t ∙ rw rest (rw (bad-first left.header (left.number + 1) fields more low none) refl)

-- a fault from outside, which is at the row behind those that were read where the reader failed
pub read-failed : (known : Option (List ℕ)) (rows : List Row) (left : RowsLeft) (fault : TraceFault)
    → HasRead known rows left → IsOutside fault → (fault.cause ≡ TraceCause.Read → fault.row ≡ left.number + 1) → EndsReading known fault
read-failed known rows left fault read outside at_row = record {
  first = λ form. absurd (cc (outside.0, form));
  behind = λ cause. by_text known read (at_row cause);
  read = outside.1;
  memory = outside.2;
}
  where
    by_text : (known : Option (List ℕ)) → HasRead known rows left → fault.row ≡ left.number + 1 → IfSome known (λ bytes. IsBehind fault.row (records_of bytes))
    by_text None read row = tt
    by_text (Some bytes) read row =
        let t = read.text in
        let ok : IsOk (trace_of (t.first ∷ t.taken)) = rw (header-first left.header t.first t.taken t.told, t.mean) refl in
        (t.first ∷ t.taken, t.rest, t.all, omega (arith, row, t.counted), ok)

-- one more row
pub read-more : (known : Option (List ℕ)) (rows : List Row) (left now : RowsLeft) (found : Bool) (fields : Record) (row : Row)
    → HasRead known rows left → Takes left.records now.records found fields → found ≡ true → left.number + 1 ≤ ROWS_MAX + 1 → row_of left.header.version left.header.setup fields ≡ Some row
    → now.header ≡ left.header → now.number ≡ left.number + 1 → HasRead known (rows ++ (row ∷ [])) now
read-more known rows left now found fields row read takes is low told same next = record {
  number = omega (arith, length-append rows (row ∷ []), read.number, next);
  within = omega (arith, low, next);
  text = by_text known read;
}
  where
    by_text : (known : Option (List ℕ)) → HasRead known rows left → IfSome known (λ bytes. HasTaken (records_of bytes) (rows ++ (row ∷ [])) now)
    by_text None read = tt
    by_text (Some bytes) read =
        let t = read.text in
        let (more, rest, after) = took t.rest now.records found fields (rw t.behind at takes) is in
        record {
          first = t.first;
          taken = t.taken ++ (fields ∷ []);
          rest = more;
          all = t.all ∙ ap (λ rs. t.first ∷ (t.taken ++ rs)) rest ∙ ap (λ rs. t.first ∷ rs) (sym (append_assoc t.taken (fields ∷ []) more));
          told = rw same t.told;
          counted = omega (arith, length-append t.taken (fields ∷ []), t.counted, next);
          mean = rw same (rows-behind left.header 2 (left.number + 1) t.taken (fields ∷ []) rows (omega (arith, t.counted)) t.mean
              ∙ rw (good-first left.header (left.number + 1) fields [] row low told) refl);
          behind = after;
        }

-- the header
pub header-read : (known : Option (List ℕ)) (reader now : ReadSoFar) (found : Bool) (header : Header)
    → IsUnread known reader → Takes reader.records now.records found now.fields → found ≡ true → now.number ≡ reader.number + 1
    → header_of now.fields ≡ Some header → HasRead known [] (rows_left header now)
header-read known reader now found header unread takes is next told = record {
  number = omega (arith, unread.number, next);
  within = omega (arith, unread.number, next);
  text = by_text known unread.records;
}
  where
    by_text : (known : Option (List ℕ)) → reader.records ≡ option_map records_of known
        → IfSome known (λ bytes. HasTaken (records_of bytes) [] (rows_left header now))
    by_text None e = tt
    by_text (Some bytes) e =
        let (more, all, behind) = took (records_of bytes) now.records found now.fields (rw e at takes) is in
        record {
          first = now.fields;
          taken = [];
          rest = more;
          all = all;
          told = told;
          counted = omega (arith, unread.number, next);
          mean = refl;
          behind = behind;
        }

-- a first row that is no header, and a text without rows
pub header-bad : (known : Option (List ℕ)) (left after : Option (List Record)) (found : Bool) (fields : Record)
    → left ≡ option_map records_of known → Takes left after found fields → found ≡ true → header_of fields ≡ None → EndsReading known (fault_at 1 TraceCause.BadHeader)
header-bad known left after found fields e takes is none = fault-ends known (fault_at 1 TraceCause.BadHeader) refl (by_text known e)
  where
    by_text : (known : Option (List ℕ)) → left ≡ option_map records_of known
        → IfSome known (λ bytes. trace_of (records_of bytes) ≡ Err (fault_at 1 TraceCause.BadHeader))
    by_text None e = tt
    by_text (Some bytes) e =
        let (more, all, behind) = took (records_of bytes) after found fields (rw e at takes) is in
        ap trace_of all ∙ rw (none, trace_of) refl

pub header-missing : (known : Option (List ℕ)) (left after : Option (List Record)) (found : Bool) (fields : Record)
    → left ≡ option_map records_of known → Takes left after found fields → found ≡ false → EndsReading known (fault_at 1 TraceCause.BadHeader)
header-missing known left after found fields e takes is = fault-ends known (fault_at 1 TraceCause.BadHeader) refl (by_text known e)
  where
    by_text : (known : Option (List ℕ)) → left ≡ option_map records_of known
        → IfSome known (λ bytes. trace_of (records_of bytes) ≡ Err (fault_at 1 TraceCause.BadHeader))
    by_text None e = tt
    by_text (Some bytes) e = ap trace_of (ended (records_of bytes) after found fields (rw e at takes) is)

-- no memory
pub memory-ends : (known : Option (List ℕ)) → EndsReading known no_memory
memory-ends known = record {
  first = λ form. absurd (cc form);
  behind = λ cause. absurd (cc cause);
  read = λ cause. absurd (cc cause);
  memory = λ _. refl;
}
