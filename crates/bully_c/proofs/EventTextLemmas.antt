-- The rows of events, one by one.
use Rattle.std.proofs.Common.{◌≡◌, ◌∙◌, ◌+◌, ◌<◌, ◌++◌, ℕ, List, [], ◌∷◌, ap, append_assoc, get_or, length, map, refl, sym, take}
use Rattle.std.proofs.lemmas.List.{append-nil}
use Rattle.bully_calls.specs.declared.event.Event.{Event}
use Rattle.bully_rows.specs.TraceText.{event_fields, line_of, row_fields, rows_text}
use Rattle.bully_rows.specs.declared.trace.Row.{Row}
use Rattle.bully_c.specs.RebalanceRows.{events_text}
use Rattle.bully_c.proofs.MappedLemmas.{mapped-more}

rows-push : (rows : List Row) (row : Row) → rows_text (rows ++ row ∷ []) ≡ rows_text rows ++ line_of (row_fields row)
rows-push [] row = append-nil (line_of (row_fields row))
rows-push (r ∷ rows) row =
    ap (λ (t : List ℕ). line_of (row_fields r) ++ t) (rows-push rows row) ∙ sym (append_assoc (line_of (row_fields r)) (rows_text rows) (line_of (row_fields row)))

-- one more is written
pub event-written : (events : List Event) (k : ℕ) (e : Event) (text new : List ℕ) → k < length events → e ≡ get_or events k e
    → text ≡ events_text (take k events) → new ≡ text ++ line_of (event_fields e) → new ≡ events_text (take (k + 1) events)
event-written events k e text new below is was more =
    let rows = map Row.Event (take k events) in
    let all : rows ++ Row.Event e ∷ [] ≡ map Row.Event (take (k + 1) events) = mapped-more Row.Event events k e e rows (rows ++ Row.Event e ∷ []) below is refl refl in
    more ∙ (ap (λ (t : List ℕ). t ++ line_of (event_fields e)) was ∙ (sym (rows-push rows (Row.Event e)) ∙ ap rows_text all))
