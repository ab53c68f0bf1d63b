-- Reading a number from the left, digit by digit.
use Rattle.std.proofs.Common.{◌≡◌, ℕ, suc, ◌+◌, ◌-◌, ◌*◌, ◌<◌, ◌≤◌, true, List, [], ◌∷◌, length, drop, get_or, min, arith, sym, ◌∙◌, ap, Option, Some, None, add-one, if◌then◌else◌}
use Rattle.std.specs.List.{list_all}
use Rattle.std.proofs.Math.Seq.{drop-cons}
use Rattle.std.proofs.lemmas.Grind.{common_steps}
use Rattle.bully_table.specs.Numeral.{is_digit, read_on}

-- what is told of a number
abbrev pub told : ℕ → ℕ
told n = min n 65535

-- the answer where n was read and these bytes follow
abbrev pub answered : ℕ → List ℕ → Option ℕ
answered n xs = if list_all is_digit xs then Some (told (read_on n xs)) else None

told-read_on : (n : ℕ) (xs : List ℕ) → told (read_on (told n) xs) ≡ told (read_on n xs)
told-read_on n [] = omega arith
told-read_on n (b ∷ xs) =
    let one = told-read_on (told n * 10 + (b - 48)) xs in
    let two = told-read_on (n * 10 + (b - 48)) xs in
    let same : told (told n * 10 + (b - 48)) ≡ told (n * 10 + (b - 48)) = omega arith in
    sym one ∙ (ap (λ (k : ℕ). told (read_on k xs)) same ∙ two)

answered-cons : (n m b : ℕ) (rest : List ℕ) → is_digit b ≡ true → m ≡ told (n * 10 + (b - 48)) → answered n (b ∷ rest) ≡ answered m rest
answered-cons n m b rest d h = rw (h, d) (ap (λ (k : ℕ). if list_all is_digit rest then Some k else None) (sym (told-read_on (n * 10 + (b - 48)) rest)))

pub answered-step : (text : List ℕ) (n m i b : ℕ) → i < length text → get_or text i 0 ≡ b → is_digit b ≡ true → m ≡ told (n * 10 + (b - 48)) → answered n (drop i text) ≡ answered m (drop (i + 1) text)
answered-step text n m i b l e d h = rw (drop-cons text i 0 l, e, add-one) (answered-cons n m b (drop (suc i) text) d h)

pub answered-end : (text : List ℕ) (n i : ℕ) → length text ≤ i → n < 65536 → answered n (drop i text) ≡ Some n
answered-end text n i l h = grind (arith, common_steps)
