-- The forms of rows by version.
use Rattle.std.proofs.Common.{◌≡◌, ◌++◌, Bool, true, false, List, [], ◌∷◌, Option, Some, None, refl, subst, ◌∙◌, if◌then◌else◌, option_and_then, option_map, codes}
use Rattle.std.specs.Str.{bytes_eq}
use Rattle.std.proofs.lemmas.List.Folds.{list_all-append}
use Rattle.std.proofs.lemmas.Option.{same_Some}
use Rattle.bully_base.specs.Setup.{Setup}
use Rattle.bully_rows.specs.declared.header.Version.{Version}
use Rattle.bully_rows.specs.declared.trace.Row.{Row}
use Rattle.bully_rows.specs.Headers.{Record, node_in, says_more}
use Rattle.bully_rows.specs.Rows.{claim_in, plan_in, row_of, unanswered_row, whole_row}
use Rattle.bully_rows.specs.Trace.{AreRowsFor, is_short}
use Rattle.bully_rows.specs.Kinds.{event_named, plan_word}

-- a row that is made of a value in a short form
made-short : {A : Type 0} (make : A → Row) (o : Option A) (row : Row) → ((x : A) → is_short (make x) ≡ true) → option_map make o ≡ Some row → is_short row ≡ true
made-short make None row short e = absurd (cc e)
made-short make (Some x) row short e = subst (λ r. is_short r ≡ true) (same_Some (make x) row e) (short x)

then-short : {A : Type 0} (find : A → Option Row) (o : Option A) (row : Row) → ((x : A) → find x ≡ Some row → is_short row ≡ true) → option_and_then find o ≡ Some row → is_short row ≡ true
then-short find None row short e = absurd (cc e)
then-short find (Some x) row short e = short x e

if-short : (test : Bool) (one other : Option Row) (row : Row) → (one ≡ Some row → is_short row ≡ true) → (other ≡ Some row → is_short row ≡ true)
    → (if test then one else other) ≡ Some row → is_short row ≡ true
if-short true one other row first second e = first e
if-short false one other row first second e = second e

-- in a version whose rows say no more, none does
pub row-short : (version : Version) (setup : Setup) (fields : Record) (row : Row) → says_more version ≡ false → row_of version setup fields ≡ Some row → is_short row ≡ true
row-short version setup [] row less e = absurd (cc e)
row-short version setup (a ∷ []) row less e = absurd (cc e)
row-short version setup (word ∷ node ∷ []) row less e =
    then-short (λ i. option_map Row.Event (event_named word i)) (node_in version node) row (λ i. made-short Row.Event (event_named word i) row (λ x. refl)) e
row-short version setup (word ∷ node ∷ owners ∷ []) row less e =
    if-short (bytes_eq word plan_word) (plan_in version setup node owners) None row
    (then-short _ (node_in version node) row (λ i. made-short _ _ row (λ x. refl))) (λ none. absurd (cc none)) e
row-short version setup (word ∷ node ∷ third ∷ fourth ∷ []) row less e =
    if-short (bytes_eq word (codes "saw")) (option_map Row.Claim (claim_in version node third fourth)) (unanswered_row version word node third fourth) row
    (made-short Row.Claim (claim_in version node third fourth) row (λ x. refl)) (λ more. absurd (cc (rw less at more))) e
row-short version setup (word ∷ node ∷ call ∷ callee ∷ answer ∷ []) row less e = absurd (cc (rw less at e))
row-short version setup (a ∷ b ∷ c ∷ d ∷ x ∷ y ∷ []) row less e = absurd (cc e)
row-short version setup (word ∷ node ∷ status ∷ coordinator ∷ halter ∷ up ∷ owners ∷ []) row less e =
    if-short (bytes_eq word (codes "saw")) (whole_row version setup node status coordinator halter up owners) None row
    (λ more. absurd (cc (rw less at more))) (λ none. absurd (cc none)) e
row-short version setup (a ∷ b ∷ c ∷ d ∷ x ∷ y ∷ z ∷ u ∷ rest) row less e = absurd (cc e)

-- one more row
pub rows-fit : (version : Version) (setup : Setup) (fields : Record) (rows : List Row) (row : Row) → row_of version setup fields ≡ Some row
    → AreRowsFor version rows → AreRowsFor version (rows ++ (row ∷ []))
rows-fit version setup fields rows row is fit less =
    let here = row-short version setup fields row less is in
    list_all-append is_short rows (row ∷ []) ∙ rw (fit less, here) refl
