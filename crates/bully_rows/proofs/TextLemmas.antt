-- Texts that grow by a piece.
use Rattle.std.proofs.Common.{◌≡◌, ◌∙◌, ℕ, zero, suc, ◌+◌, ◌-◌, ◌<◌, List, [], ◌∷◌, ◌++◌, take, length, slice_get, Some, append_assoc, ap, sym, arith}
use Rattle.std.proofs.lemmas.Grind.{common_steps}
use Rattle.std.proofs.lemmas.Option.{slice_get-get_or}
use Rattle.bully_base.specs.Setup.{IsSetup, Setup, weight_of}
use Rattle.bully_rows.specs.declared.trace.Row.{Row}
use Rattle.bully_rows.specs.TraceText.{line_of, row_fields, rows_text}

-- the text of one more row
pub rows_text-more : (rows : List Row) (k : ℕ) (row : Row) → slice_get rows k ≡ Some row → rows_text (take (k + 1) rows) ≡ rows_text (take k rows) ++ line_of (row_fields row)
rows_text-more [] k row e = grind (arith, e)
rows_text-more (r ∷ rows) zero row e = grind (arith, common_steps, e)
rows_text-more (r ∷ rows) (suc k) row e =
    let more = rows_text-more rows k row e in
    let same = append_assoc (line_of (row_fields r)) (rows_text (take k rows)) (line_of (row_fields row)) in
    grind (arith, more, same)

-- a step of the loop over rows
pub row-written : (head : List ℕ) (rows : List Row) (k : ℕ) (row : Row) (text new : List ℕ) → text ≡ head ++ rows_text (take k rows) → slice_get rows k ≡ Some row → new ≡ text ++ line_of (row_fields row) → new ≡ head ++ rows_text (take (k + 1) rows)
row-written head rows k row text new was e now =
    let more = rows_text-more rows k row e in
    let same = append_assoc head (rows_text (take k rows)) (line_of (row_fields row)) in
    grind (arith, was, now, more, same)

-- the weight of the node behind so many
pub weight-there : (setup : Setup) (before node weight : ℕ) → IsSetup setup → before < setup.nodes → before + 1 ≡ node → weight ≡ weight_of setup node → slice_get setup.weights before ≡ Some weight
weight-there setup before node weight within low next is =
    let place : node - 1 ≡ before = omega (arith, next) in
    let inside : before < length setup.weights = omega (arith, low, within.weights.0) in
    slice_get-get_or setup.weights before 0 inside ∙ ap Some (sym (rw place at is))
