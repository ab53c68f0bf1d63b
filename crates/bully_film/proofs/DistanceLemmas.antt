-- The digits of a number, each at its place.
use Rattle.std.proofs.Common.{◌≡◌, ◌∙◌, ℕ, ◌+◌, ◌-◌, ◌*◌, ◌<◌, ◌≤◌, ◌++◌, Bool, true, false, List, [], ◌∷◌, get_or, length, take, refl, sym, ap, arith}
use Rattle.std.specs.List.{list_all}
use Rattle.std.proofs.lemmas.Bool.Decides.{nat_tests}
use Rattle.std.proofs.lemmas.List.{take_more}
use Rattle.std.proofs.lemmas.List.Folds.{list_all_at}
use Rattle.bully_table.specs.Numeral.{is_digit, is_numeral, read_on}
use Rattle.bully_film.specs.Distance.{number_up_to}

all-digits : (text : List ℕ) → is_numeral text ≡ true → list_all is_digit text ≡ true
all-digits [] is = absurd (cc is)
all-digits (b ∷ []) is = grind (arith, is)
all-digits (b ∷ c ∷ rest) is = grind (arith, is)

-- each is one
digit-at : (text : List ℕ) (i : ℕ) → is_numeral text ≡ true → i < length text → is_digit (get_or text i 0) ≡ true
digit-at text i is within = by_test (is_digit (get_or text i 0)) refl
  where
    by_test : (b : Bool) → is_digit (get_or text i 0) ≡ b → is_digit (get_or text i 0) ≡ true
    by_test true e = e
    by_test false e = absurd (cc (sym (list_all_at is_digit text i 0 within e) ∙ all-digits text is))

pub digit-bounds : (text : List ℕ) (i : ℕ) → is_numeral text ≡ true → i < length text → (48 ≤ get_or text i 0) × (get_or text i 0 ≤ 57)
digit-bounds text i is within =
    let digit = digit-at text i is within in
    (grind (arith, nat_tests, digit), grind (arith, nat_tests, digit))

read_on-more : (n : ℕ) (xs : List ℕ) (b : ℕ) → read_on n (xs ++ b ∷ []) ≡ read_on n xs * 10 + (b - 48)
read_on-more n [] b = refl
read_on-more n (first ∷ xs) b = read_on-more (n * 10 + (first - 48)) xs b

-- within the number it is one more digit
pub digit-within : (text : List ℕ) (places place digit : ℕ) → length text ≤ places → place < places → places - length text ≤ place
    → digit ≡ get_or text (place - (places - length text)) 0 - 48
    → number_up_to text places (place + 1) ≡ number_up_to text places place * 10 + digit
digit-within text places place digit fits inside late is =
    let i = place + length text - places in
    let now : place - (places - length text) ≡ i = omega (arith, fits, inside, late) in
    let next : place + 1 + length text - places ≡ i + 1 = omega (arith, fits, inside, late) in
    let within : i < length text = omega (arith, fits, inside, late) in
    ap (λ (k : ℕ). read_on 0 (take k text)) next
    ∙ ap (read_on 0) (take_more text i 0 within)
    ∙ read_on-more 0 (take i text) (get_or text i 0)
    ∙ ap (λ (k : ℕ). read_on 0 (take i text) * 10 + (get_or text k 0 - 48)) (sym now)
    ∙ ap (λ (d : ℕ). read_on 0 (take i text) * 10 + d) (sym is)
