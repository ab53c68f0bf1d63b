-- The rows that records mean, one at a time.
use Rattle.std.proofs.Common.{◌≡◌, inl, inr, ◌+◌, ◌<◌, ◌≤◌, ◌∙◌, true, false, ℕ, List, [], ◌∷◌, ◌++◌, Option, Some, None, Result, Ok, Err, arith, refl, sym, ap, length, nat_lt}
use Rattle.std.proofs.lemmas.Bool.{cases_Bool}
use Rattle.bully_rows.specs.declared.TheConstants.{ROWS_MAX}
use Rattle.bully_rows.specs.declared.header.Header.{Header}
use Rattle.bully_rows.specs.declared.trace.Row.{Row}
use Rattle.bully_rows.specs.declared.trace.TraceCause.{TraceCause}
use Rattle.bully_rows.specs.declared.trace.TraceFault.{TraceFault}
use Rattle.bully_rows.specs.Headers.{Record}
use Rattle.bully_rows.specs.Rows.{fault_at, read_as, row_of, rows_from}

pub good-first : (header : Header) (number : ℕ) (fields : Record) (rest : List Record) (row : Row) → number ≤ ROWS_MAX + 1 → row_of header.version header.setup fields ≡ Some row
    → rows_from header number (fields ∷ rest) ≡ read_as (λ xs. row ∷ xs) (rows_from header (number + 1) rest)
good-first header number fields rest row within e =
    let low : nat_lt (ROWS_MAX + 1) number ≡ false = grind (arith, within) in
    rw (low, e) refl

pub bad-first : (header : Header) (number : ℕ) (fields : Record) (rest : List Record) → number ≤ ROWS_MAX + 1 → row_of header.version header.setup fields ≡ None
    → rows_from header number (fields ∷ rest) ≡ Err (fault_at number TraceCause.BadRow)
bad-first header number fields rest within e =
    let low : nat_lt (ROWS_MAX + 1) number ≡ false = grind (arith, within) in
    rw (low, e) refl

pub late-first : (header : Header) (number : ℕ) (fields : Record) (rest : List Record) → ROWS_MAX + 1 < number
    → rows_from header number (fields ∷ rest) ≡ Err (fault_at number TraceCause.TooManyRows)
late-first header number fields rest beyond =
    let high : nat_lt (ROWS_MAX + 1) number ≡ true = grind (arith, beyond) in
    rw high refl

read-nothing : (more : Result (List Row) TraceFault) → more ≡ read_as (λ xs. [] ++ xs) more
read-nothing (Ok xs) = refl
read-nothing (Err f) = refl

read-cons : (row : Row) (rows all : List Row) (more : Result (List Row) TraceFault) → row ∷ rows ≡ all
    → read_as (λ xs. row ∷ xs) (read_as (λ xs. rows ++ xs) more) ≡ read_as (λ xs. all ++ xs) more
read-cons row rows all (Ok xs) e = ap (λ ys. Ok (ys ++ xs)) e
read-cons row rows all (Err f) e = refl

-- rows that begin with one are others behind it
pub read-under : (row : Row) (all : List Row) (r : Result (List Row) TraceFault) → read_as (λ xs. row ∷ xs) r ≡ Ok all
    → (rows : List Row) × (r ≡ Ok rows) × (row ∷ rows ≡ all)
read-under row all (Ok rows) e = (rows, refl, cc e)
read-under row all (Err f) e = absurd (cc e)

-- records that mean rows, and others behind them
pub rows-behind : (header : Header) (number next : ℕ) (taken now : List Record) (rows : List Row) → length taken + number ≡ next → rows_from header number taken ≡ Ok rows
    → rows_from header number (taken ++ now) ≡ read_as (λ xs. rows ++ xs) (rows_from header next now)
rows-behind header number next [] now rows e is =
    let none : rows ≡ [] = cc is in
    let same : number ≡ next = grind (arith, e) in
    rw (none, ← same) (read-nothing (rows_from header number now))
rows-behind header number next (first ∷ taken) now rows e is = elim (cases_Bool (nat_lt (ROWS_MAX + 1) number)) [
  | inl late ↦ absurd (cc (late-first header number first taken (grind (arith, late)), is))
  | inr low ↦ by_row (row_of header.version header.setup first) refl (grind (arith, low)) (λ behind. rows-behind header (number + 1) next taken now behind (omega (arith, e)))
]
  where
    by_row : (o : Option Row) → row_of header.version header.setup first ≡ o → number ≤ ROWS_MAX + 1
        → ((behind : List Row) → rows_from header (number + 1) taken ≡ Ok behind → rows_from header (number + 1) (taken ++ now) ≡ read_as (λ xs. behind ++ xs) (rows_from header next now))
        → rows_from header number (first ∷ (taken ++ now)) ≡ read_as (λ xs. rows ++ xs) (rows_from header next now)
    by_row None told low more = absurd (cc (bad-first header number first taken low told, is))
    by_row (Some row) told low more =
        let (behind, ok, all) = read-under row rows (rows_from header (number + 1) taken) (sym (good-first header number first taken row low told) ∙ is) in
        good-first header number first (taken ++ now) row low told ∙ ap (read_as (λ xs. row ∷ xs)) (more behind ok)
        ∙ read-cons row behind rows (rows_from header next now) all
