-- Lemmas on text with marks in it.
use Rattle.std.proofs.Common.{◌≡◌, ◌≢◌, ℕ, ◌==◌, true, false, List, [], ◌∷◌, ◌++◌, refl, sym, ap, ◌∙◌, append_assoc, append-nil, if◌then◌else◌, arith}
use Rattle.std.proofs.lemmas.Bool.Decides.{nat_tests}
use Rattle.bully_paint.specs.Marks.{Place, in_text, behind_escape, in_mark, next, known, text_from, place_from, is_text, is_whole, unpainted}

pub text_from-++ : (p : Place) (xs ys : List ℕ) → text_from p (xs ++ ys) ≡ text_from p xs ++ text_from (place_from p xs) ys
text_from-++ p [] ys = refl
text_from-++ p (x ∷ xs) ys =
    ap (λ l. known p x ++ l) (text_from-++ (next p x) xs ys)
    ∙ sym (append_assoc (known p x) (text_from (next p x) xs) (text_from (place_from (next p x) xs) ys))

pub place_from-++ : (p : Place) (xs ys : List ℕ) → place_from p (xs ++ ys) ≡ place_from (place_from p xs) ys
place_from-++ p [] ys = refl
place_from-++ p (x ∷ xs) ys = place_from-++ (next p x) xs ys

pub in_text-of : (p : Place) → is_text p ≡ true → p ≡ in_text
in_text-of in_text e = refl
in_text-of behind_escape e = grind (arith, e)
in_text-of in_mark e = grind (arith, e)

-- behind whole bytes text begins anew
pub unpainted-++ : (xs ys : List ℕ) → is_whole xs ≡ true → unpainted (xs ++ ys) ≡ unpainted xs ++ unpainted ys
unpainted-++ xs ys whole =
    text_from-++ in_text xs ys ∙ ap (λ p. unpainted xs ++ text_from p ys) (in_text-of (place_from in_text xs) whole)

pub whole-++ : (xs ys : List ℕ) → is_whole xs ≡ true → is_whole ys ≡ true → is_whole (xs ++ ys) ≡ true
whole-++ xs ys whole whole' =
    ap is_text (place_from-++ in_text xs ys ∙ ap (λ p. place_from p ys) (in_text-of (place_from in_text xs) whole)) ∙ whole'

-- a byte that is no ESC is text
pub byte-whole : (b : ℕ) → b ≢ 27 → is_whole (b ∷ []) ≡ true
byte-whole b other =
    let test : (b == 27) ≡ false = grind (arith, nat_tests, other) in
    ap (λ found. is_text (if found then behind_escape else in_text)) test

pub byte-text : (b : ℕ) → b ≢ 27 → unpainted (b ∷ []) ≡ b ∷ []
byte-text b other =
    let test : (b == 27) ≡ false = grind (arith, nat_tests, other) in
    append-nil (known in_text b) ∙ ap (λ found. if found then [] else b ∷ []) test
