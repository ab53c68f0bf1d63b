-- A row is shown field by field.
use Rattle.std.proofs.Common.{◌≡◌, ◌∙◌, ℕ, zero, suc, ◌+◌, ◌<◌, ◌++◌, Bool, true, false, List, [], ◌∷◌, Some, None, length, take, drop, get_or, refl, sym, ap, subst, arith, codes, map, append_assoc, append-nil, nat_lt, if◌then◌else◌}
use Rattle.std.proofs.lemmas.Bool.{lt-ltb, le-ltb, ltb-false, ltb-true}
use Rattle.std.specs.List.{join_with_byte}
use Rattle.csv.specs.Records.{field_at}
use Rattle.bully_draft.specs.Drafted.{Appends, Drafted}
use Rattle.bully_draft.specs.Shown.{AllPrinted, cut_shown, parted, row_shown, shown_byte}
use Rattle.bully_draft.proofs.DraftLemmas.{appends_nothing, appends_then}
use Rattle.bully_draft.proofs.ShownLemmas.{bytes-printed}

-- ---- the fields of a record

pub field-some : (fields : List (List ℕ)) (place : ℕ) (field : List ℕ) → Some field ≡ field_at fields place → field ≡ get_or fields place []
unfolding field_at
field-some [] place field is = absurd (cc is)
field-some (f ∷ fields) zero field is = cc is
field-some (f ∷ fields) (suc place) field is = field-some fields place field is

pub field-none : (fields : List (List ℕ)) (place : ℕ) → None ≡ field_at fields place → [] ≡ get_or fields place []
unfolding field_at
field-none [] place is = refl
field-none (f ∷ fields) zero is = absurd (cc is)
field-none (f ∷ fields) (suc place) is = field-none fields place is

-- ---- the fields from a place on, each behind a comma, but for the first of all

abbrev behind : List (List ℕ) → List ℕ
behind [] = []
behind (field ∷ fields) = 44 ∷ (field ++ behind fields)

abbrev from : ℕ → List (List ℕ) → List ℕ
from zero fields = join_with_byte 44 fields
from (suc n) fields = behind (drop (suc n) fields)

join-behind : (field : List ℕ) (fields : List (List ℕ)) → join_with_byte 44 (field ∷ fields) ≡ field ++ behind fields
join-behind field [] = sym (append-nil field)
join-behind field (next ∷ fields) = ap (λ t. field ++ (44 ∷ t)) (join-behind next fields)

behind-at : (n : ℕ) (fields : List (List ℕ)) → n < length fields → behind (drop n fields) ≡ 44 ∷ (get_or fields n [] ++ behind (drop (suc n) fields))
behind-at n [] within = absurd (omega (arith, within))
behind-at zero (field ∷ fields) within = refl
behind-at (suc n) (field ∷ fields) within = behind-at n fields (omega (arith, within))

from-at : (n : ℕ) (fields : List (List ℕ)) → n < length fields → from n fields ≡ parted n (get_or fields n []) ++ from (suc n) fields
from-at n [] within = absurd (omega (arith, within))
from-at zero (field ∷ fields) within = join-behind field fields
from-at (suc n) (field ∷ fields) within = behind-at (suc n) (field ∷ fields) within

behind-end : (n : ℕ) (fields : List (List ℕ)) → n ≡ length fields → behind (drop n fields) ≡ []
behind-end zero [] is = refl
behind-end zero (field ∷ fields) is = absurd (omega (arith, is))
behind-end (suc n) [] is = absurd (omega (arith, is))
behind-end (suc n) (field ∷ fields) is = behind-end n fields (omega (arith, is))

from-end : (n : ℕ) (fields : List (List ℕ)) → n ≡ length fields → from n fields ≡ []
from-end zero [] is = refl
from-end zero (field ∷ fields) is = absurd (omega (arith, is))
from-end (suc n) fields is = behind-end (suc n) fields is

-- ---- what is left out

lt-suc : (m n : ℕ) (b : Bool) → nat_lt m n ≡ b → nat_lt (suc m) (suc n) ≡ b
lt-suc m n true is = lt-ltb (suc m) (suc n) (omega (arith, ltb-true m n is))
lt-suc m n false is = le-ltb (suc m) (suc n) (omega (arith, ltb-false m n is))

-- one byte less
cut-one : (room byte : ℕ) (bytes : List ℕ) → cut_shown (suc room) (byte ∷ bytes) ≡ shown_byte byte ∷ cut_shown room bytes
cut-one room byte bytes = ap (λ b. shown_byte byte ∷ (map shown_byte (take room bytes) ++ (if b then codes ".." else []))) (lt-suc room (length bytes) (nat_lt room (length bytes)) refl)

-- a piece that fits
cut-fits : (room left : ℕ) (piece rest : List ℕ) → left + length piece ≡ room → cut_shown room (piece ++ rest) ≡ map shown_byte (take room piece) ++ cut_shown left rest
cut-fits zero left [] rest is = let same : zero ≡ left = omega (arith, is) in ap (λ n. cut_shown n rest) same
cut-fits (suc room) left [] rest is = let same : suc room ≡ left = omega (arith, is) in ap (λ n. cut_shown n rest) same
cut-fits zero left (byte ∷ piece) rest is = absurd (omega (arith, is))
cut-fits (suc room) left (byte ∷ piece) rest is = cut-one room byte (piece ++ rest) ∙ ap (λ t. shown_byte byte ∷ t) (cut-fits room left piece rest (omega (arith, is)))

-- one that doesn't
cut-over : (room : ℕ) (piece rest : List ℕ) → room < length piece → cut_shown room (piece ++ rest) ≡ map shown_byte (take room piece) ++ codes ".."
cut-over room [] rest over = absurd (omega (arith, over))
cut-over zero (byte ∷ piece) rest over =
    let some : nat_lt 0 (length (byte ∷ (piece ++ rest))) ≡ true = lt-ltb 0 (length (byte ∷ (piece ++ rest))) (omega arith) in
    ap (λ b. if b then codes ".." else []) some
cut-over (suc room) (byte ∷ piece) rest over = cut-one room byte (piece ++ rest) ∙ ap (λ t. shown_byte byte ∷ t) (cut-over room piece rest (omega (arith, over)))

cut-nothing : (room : ℕ) → cut_shown room [] ≡ []
cut-nothing zero = ap (λ b. if b then codes ".." else []) (le-ltb 0 0 (omega arith))
cut-nothing (suc room) = ap (λ b. if b then codes ".." else []) (le-ltb (suc room) 0 (omega arith))

-- ---- a draft with the fields before a place

pub record HasShown (start now : Drafted) (fields : List (List ℕ)) (place room : ℕ) : Type 0 where
  pub part : List ℕ
  pub pushed : Appends start now part
  pub whole : row_shown fields ≡ part ++ cut_shown room (from place fields)

pub no-fields : (start : Drafted) (fields : List (List ℕ)) → HasShown start start fields 0 60
no-fields start fields = record { part = []; pushed = appends_nothing start; whole = refl }

-- what is shown behind them, by what is shown of the field at the place
piece-at : {start now : Drafted} (fields : List (List ℕ)) (place room : ℕ) (behind_it : List ℕ) (so_far : HasShown start now fields place room) → place < length fields
    → cut_shown room (parted place (get_or fields place []) ++ from (suc place) fields) ≡ map shown_byte (take room (parted place (get_or fields place []))) ++ behind_it
    → row_shown fields ≡ (so_far.part ++ map shown_byte (take room (parted place (get_or fields place [])))) ++ behind_it
piece-at fields place room behind_it so_far within is =
    so_far.whole ∙ ap (λ t. so_far.part ++ cut_shown room t) (from-at place fields within) ∙ ap (λ t. so_far.part ++ t) is
    ∙ sym (append_assoc so_far.part (map shown_byte (take room (parted place (get_or fields place [])))) behind_it)

-- one field more
pub field-fits : {start now new : Drafted} (fields : List (List ℕ)) (place room left : ℕ) (field : List ℕ) → HasShown start now fields place room → place < length fields
    → field ≡ get_or fields place [] → Appends now new (map shown_byte (take room (parted place field))) → left + length (parted place field) ≡ room
    → HasShown start new fields (place + 1) left
field-fits {start} {now} {new} fields place room left field so_far within is pushed fits =
    let piece = parted place (get_or fields place []) in
    let here : field ≡ get_or fields place [] = is in
    let many : left + length piece ≡ room = subst (λ f. left + length (parted place f) ≡ room) here fits in
    let shows = cut-fits room left piece (from (suc place) fields) many in
    let next : suc place ≡ place + 1 = omega arith in
    record {
      part = so_far.part ++ map shown_byte (take room piece);
      pushed = appends_then so_far.pushed (subst (λ f. Appends now new (map shown_byte (take room (parted place f)))) here pushed);
      whole = piece-at fields place room _ so_far within shows ∙ ap (λ n. (so_far.part ++ map shown_byte (take room piece)) ++ cut_shown left (from n fields)) next;
    }

-- the field at which it is cut
pub field-over : {start now new last : Drafted} (fields : List (List ℕ)) (place room : ℕ) (field : List ℕ) → HasShown start now fields place room → place < length fields
    → field ≡ get_or fields place [] → Appends now new (map shown_byte (take room (parted place field))) → room < length (parted place field) → Appends new last (codes "..")
    → Appends start last (row_shown fields)
field-over {start} {now} {new} {last} fields place room field so_far within is pushed over dots =
    let piece = parted place (get_or fields place []) in
    let more : room < length piece = subst (λ f. room < length (parted place f)) is over in
    let both = appends_then (appends_then so_far.pushed (subst (λ f. Appends now new (map shown_byte (take room (parted place f)))) is pushed)) dots in
    subst (Appends start last) (sym (piece-at fields place room (codes "..") so_far within (cut-over room piece (from (suc place) fields) more))) both

-- all of them
pub fields-all : {start now : Drafted} (fields : List (List ℕ)) (place room : ℕ) → HasShown start now fields place room → place ≡ length fields → Appends start now (row_shown fields)
fields-all {start} {now} fields place room so_far end =
    let whole : row_shown fields ≡ so_far.part = so_far.whole ∙ ap (λ t. so_far.part ++ cut_shown room t) (from-end place fields end) ∙ ap (λ t. so_far.part ++ t) (cut-nothing room) ∙ append-nil so_far.part in
    subst (Appends start now) (sym whole) so_far.pushed

-- ---- all of it is printed

printed-append : (part more : List ℕ) → AllPrinted part → AllPrinted more → AllPrinted (part ++ more)
printed-append [] more first second = second
printed-append (byte ∷ part) more (head, first) second = (head, printed-append part more first second)

dots-printed : (b : Bool) → AllPrinted (if b then codes ".." else [])
dots-printed true = (refl, (refl, tt))
dots-printed false = tt

pub row-printed : (fields : List (List ℕ)) → AllPrinted (row_shown fields)
row-printed fields =
    let row = join_with_byte 44 fields in
    printed-append (map shown_byte (take 60 row)) _ (bytes-printed (take 60 row)) (dots-printed (nat_lt 60 (length row)))
