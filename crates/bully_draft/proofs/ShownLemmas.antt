-- Letters are shown one by one.
use Rattle.std.proofs.Common.{◌≡◌, ◌∙◌, ℕ, ◌+◌, ◌<◌, ◌++◌, Bool, true, false, List, [], ◌∷◌, length, take, get_or, refl, sym, ap, subst, arith, map, encode_utf8}
use Rattle.std.specs.Str.{IsUtf8, chars, encode_utf8_all}
use Rattle.std.proofs.lemmas.List.{append_assoc, append-nil, map-append, take_all, take_more}
use Rattle.std.proofs.lemmas.Bool.{and_from, and_parts}
use Rattle.std.proofs.lemmas.Str.{chars-encodes, encodes-append, scalars-chars}
use lib.Utf8.{scalar, scalars}
use Rattle.bully_draft.specs.Shown.{AllPlain, AllPrinted, is_control, is_printed, shown, shown_byte, shown_letter}

shown-one : (cs : List ℕ) (c : ℕ) → encode_utf8_all (map shown_letter (cs ++ c ∷ [])) ≡ encode_utf8_all (map shown_letter cs) ++ encode_utf8 (shown_letter c)
shown-one cs c =
    ap encode_utf8_all (map-append shown_letter cs (c ∷ [])) ∙ encodes-append (map shown_letter cs) (shown_letter c ∷ [])
    ∙ ap (λ l. encode_utf8_all (map shown_letter cs) ++ l) (append-nil (encode_utf8 (shown_letter c)))

-- one more letter was appended
pub letter-more : (start text new cs : List ℕ) (n c : ℕ) → text ≡ start ++ encode_utf8_all (map shown_letter (take n cs)) → n < length cs → c ≡ get_or cs n c
    → new ≡ text ++ encode_utf8 (shown_letter c) → new ≡ start ++ encode_utf8_all (map shown_letter (take (n + 1) cs))
letter-more start text new cs n c so_far within is more =
    let all : take (n + 1) cs ≡ take n cs ++ c ∷ [] = take_more cs n c within ∙ ap (λ x. take n cs ++ x ∷ []) (sym is) in
    more ∙ ap (λ l. l ++ encode_utf8 (shown_letter c)) so_far ∙ append_assoc start (encode_utf8_all (map shown_letter (take n cs))) (encode_utf8 (shown_letter c))
    ∙ ap (λ l. start ++ l) (sym (shown-one (take n cs) c)) ∙ ap (λ l. start ++ encode_utf8_all (map shown_letter l)) (sym all)

-- all letters were appended
pub letters-all : (start text cs : List ℕ) (n : ℕ) → text ≡ start ++ encode_utf8_all (map shown_letter (take n cs)) → n ≡ length cs
    → text ≡ start ++ encode_utf8_all (map shown_letter cs)
letters-all start text cs n so_far all = so_far ∙ ap (λ l. start ++ encode_utf8_all (map shown_letter l)) (take_all n cs (omega (arith, all)))

-- a letter that is shown is plain
letter-plain : (c : ℕ) (b : Bool) → is_control c ≡ b → is_control (shown_letter c) ≡ false
letter-plain c true is = rw is refl
letter-plain c false is = rw is is

-- and so are all
all-plain : (cs : List ℕ) → AllPlain (map shown_letter cs)
all-plain [] = tt
all-plain (c ∷ cs) = (letter-plain c (is_control c) refl, all-plain cs)

-- a letter stays one
letter-scalar : (c : ℕ) (b : Bool) → is_control c ≡ b → scalar c ≡ true → scalar (shown_letter c) ≡ true
letter-scalar c true is one = rw is refl
letter-scalar c false is one = rw is one

all-scalars : (cs : List ℕ) → scalars cs ≡ true → scalars (map shown_letter cs) ≡ true
all-scalars [] are = refl
all-scalars (c ∷ cs) are =
    let each = and_parts (scalar c) (scalars cs) are in
    and_from (scalar (shown_letter c)) (scalars (map shown_letter cs)) (letter-scalar c (is_control c) refl each.0) (all-scalars cs each.1)

-- what is written of a text has no control
pub shown-plain : (text : List ℕ) → IsUtf8 text → AllPlain (chars (shown text))
shown-plain text is =
    let letters : chars (shown text) ≡ map shown_letter (chars text) = chars-encodes (map shown_letter (chars text)) (all-scalars (chars text) (scalars-chars text is)) in
    subst AllPlain (sym letters) (all-plain (chars text))

-- a byte that is shown is printed
byte-printed : (b : ℕ) (is : Bool) → is_printed b ≡ is → is_printed (shown_byte b) ≡ true
byte-printed b true is = rw is is
byte-printed b false is = rw is refl

pub bytes-printed : (bs : List ℕ) → AllPrinted (map shown_byte bs)
bytes-printed [] = tt
bytes-printed (b ∷ bs) = (byte-printed b (is_printed b) refl, bytes-printed bs)
