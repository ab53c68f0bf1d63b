-- What is written of a trace means that trace.
use Rattle.std.proofs.Common.{◌≡◌, ◌∙◌, ℕ, ◌+◌, ◌≤◌, ◌++◌, List, [], ◌∷◌, length, map, Option, Some, None, Result, Ok, Err, OnOk, All, arith, refl, ap}
use Rattle.std.specs.Io.KnownBytes.{Appends}
use Rattle.std.proofs.lemmas.Bool.{and_parts}
use Rattle.std.proofs.lemmas.List.Elements.{All-head, All-tail}
use Rattle.std.proofs.lemmas.Option.{same_Some}
use Rattle.csv.specs.Reading.{strip_bom}
use Rattle.bully_base.specs.Setup.{IsSetup, Setup}
use Rattle.bully_rows.specs.declared.TheConstants.{ROWS_MAX}
use Rattle.bully_rows.specs.declared.header.Header.{Header}
use Rattle.bully_rows.specs.declared.header.Version.{Version}
use Rattle.bully_rows.specs.declared.trace.Row.{Row}
use Rattle.bully_rows.specs.Headers.{header_with}
use Rattle.bully_rows.specs.ReadBack.{IsRowTold, IsTold, ReadsBack}
use Rattle.bully_rows.specs.Rows.{IsTraceOf, read_as, records_of, rows_from, trace_of}
use Rattle.bully_rows.specs.Trace.{AreRowsFor, Trace, are_short, headed, is_short}
use Rattle.bully_rows.specs.TraceText.{header_fields, line_of, row_fields, rows_text, trace_text}
use Rattle.bully_rows.proofs.HeaderTexts.{header-read}
use Rattle.bully_rows.proofs.LineTexts.{lines, lines-read}
use Rattle.bully_rows.proofs.RowLines.{header-line, row-lines}
use Rattle.bully_rows.proofs.RowTexts.{row-read}
use Rattle.bully_rows.proofs.RowsLemmas.{good-first}
use Rattle.bully_rows.proofs.TraceLemmas.{header-first}

-- the rows, from this number on
rows-read : (header : Header) (number : ℕ) (rows : List Row) → IsSetup header.setup → AreRowsFor header.version rows → All (IsRowTold header.version header.setup) rows
    → number + length rows ≤ ROWS_MAX + 2 → rows_from header number (map row_fields rows) ≡ Ok rows
rows-read header number [] within forms told few = refl
rows-read header number (row ∷ rows) within forms told few =
    let P = IsRowTold header.version header.setup in
    let read = row-read header.version header.setup row within (λ less. (and_parts (is_short row) (are_short rows) (forms less)).0) (All-head P row rows told) in
    let more = rows-read header (number + 1) rows within (λ less. (and_parts (is_short row) (are_short rows) (forms less)).1) (All-tail P row rows told) (omega arith) in
    good-first header number (row_fields row) (map row_fields rows) row (omega arith) read ∙ ap (read_as (λ xs. row ∷ xs)) more

rows-lines : (rows : List Row) → rows_text rows ≡ lines (map row_fields rows)
rows-lines [] = refl
rows-lines (row ∷ rows) = ap (λ (t : List ℕ). line_of (row_fields row) ++ t) (rows-lines rows)

-- a trace's text begins with no byte order mark
unmarked : (version : Version) (setup : Setup) (rest : List ℕ) → strip_bom (line_of (header_fields version setup) ++ rest) ≡ line_of (header_fields version setup) ++ rest
unfolding strip_bom
unmarked Version.One setup rest = refl
unmarked Version.Two setup rest = refl
unmarked Version.Three setup rest = refl

-- its records are the fields of its header and of its rows
records-read : (trace : Trace) → IsTold trace → records_of (trace_text trace) ≡ header_fields trace.version trace.setup ∷ map row_fields trace.rows
records-read trace told =
    let first = header_fields trace.version trace.setup in
    let rest = map row_fields trace.rows in
    ap (λ (t : List ℕ). records_of (line_of first ++ t)) (rows-lines trace.rows)
    ∙ lines-read (first ∷ rest) (unmarked trace.version trace.setup (lines rest))
    (header-line trace.version trace.setup told.setup, row-lines trace.version trace.setup trace.rows told.setup told.rows)

pub reads-back : ReadsBack
reads-back trace told =
    let header = header_with trace.version trace.setup in
    let first = header_fields trace.version trace.setup in
    let rest = map row_fields trace.rows in
    let count = told.count in
    let rows = rows-read header 2 trace.rows told.setup told.forms told.rows (omega arith) in
    ap trace_of (records-read trace told) ∙ header-first header first rest (header-read trace.version trace.setup told.setup told.events told.version)
    ∙ ap (read_as (headed header)) rows

-- the bytes of a writer in which nothing stood before
text-means : (trace : Trace) (old new : Option (List ℕ)) → Appends old new (trace_text trace) → old ≡ Some [] → IsTold trace → IsTraceOf new trace
text-means trace None new grows none told = absurd (cc none)
text-means trace (Some xs) None grows none told = tt
text-means trace (Some xs) (Some ys) grows none told =
    let empty = same_Some xs [] none in
    let is : ys ≡ trace_text trace = rw empty at grows in
    ap (λ (text : List ℕ). trace_of (records_of text)) is ∙ reads-back trace told

pub written-means : {E : Type 0} (written : Result (Unit {0}) E) (trace : Trace) (old new : Option (List ℕ)) → OnOk written (Appends old new (trace_text trace))
    → OnOk written (old ≡ Some [] → IsTold trace → IsTraceOf new trace)
written-means (Ok done) trace old new grows = text-means trace old new grows
written-means (Err why) trace old new grows = tt
