-- What is cut at a comma, and what std's parse makes of a number.
use Rattle.std.proofs.Common.{◌≡◌, ◌⊎◌, ℕ, ◌<◌, ◌≤◌, ◌^◌, inl, inr, true, List, [], ◌∷◌, Option, Some, None, Result, Ok, Err, Bor, arith, rules, refl, sym, ap, ◌∙◌, length, nat_lt, if◌then◌else◌}
use Rattle.std.specs.Option.{option_and_then}
use Rattle.std.specs.Result.{OkIff}
use Rattle.std.specs.Str.Parse.{ParsesUnsigned}
use Rattle.std.specs.List.{list_all}
use Rattle.std.proofs.lemmas.Bool.Decides.{nat_tests}
use Rattle.std.proofs.lemmas.Grind.{common_steps}
use Rattle.std.proofs.lemmas.Result.{OkIff-at_ok, OkIff-at_err}
use Rattle.std.proofs.lemmas.Str.Parse.{IsNumeralModel, numerals_by_fold, parse_digits}
use Rattle.std.proofs.lemmas.Str.Pattern.{IsSplitOnceResult, split_once_first}
use Rattle.bully_table.specs.Numeral.{is_digit, is_numeral, number_of, read_on}
use Rattle.bully_lines.specs.Texts.{behind, field}

module _ (text : List ℕ) (r : Option (Bor (List ℕ) × Bor (List ℕ))) (split : IsSplitOnceResult 44 text r) where
  -- the two parts
  pub first_part : (x : Bor (List ℕ) × Bor (List ℕ)) → r ≡ Some x → x.0.now ≡ field text
  first_part x is = let (inside, front, back) = rw is at (split_once_first 44 text r split (omega arith)) in front

  pub last_part : (x : Bor (List ℕ) × Bor (List ℕ)) → r ≡ Some x → x.1.now ≡ behind text
  last_part x is = let (inside, front, back) = rw is at (split_once_first 44 text r split (omega arith)) in back

  -- without a comma all of it is the first
  pub whole_part : r ≡ None → text ≡ field text
  whole_part is = let none = rw is at (split_once_first 44 text r split (omega arith)) in grind (arith, common_steps, none)

  pub no_part : r ≡ None → [] ≡ behind text
  no_part is = let none = rw is at (split_once_first 44 text r split (omega arith)) in grind (arith, common_steps, none)

-- digits, and the number that they spell
pub digits : IsNumeralModel (λ ds. list_all is_digit ds ≡ true) (read_on 0)
digits = numerals_by_fold _ (search rules) read_on (search rules)

pub numeral_digits : (text : List ℕ) → is_numeral text ≡ true → list_all is_digit text ≡ true
numeral_digits [] e = absurd (cc e)
numeral_digits (b ∷ []) e = grind (arith, e)
numeral_digits (b ∷ c ∷ rest) e = grind (arith, e)

pub numeral_nonempty : (text : List ℕ) → is_numeral text ≡ true → 0 < length text
numeral_nonempty [] e = absurd (cc e)
numeral_nonempty (b ∷ rest) e = omega arith

-- what a text of that form is parsed as, below 2 ^ 32
abbrev below : ℕ → Option ℕ → Option ℕ
below bound q = option_and_then (λ n. if nat_lt n bound then Some n else None) q

numeral_is : (text : List ℕ) → is_numeral text ≡ true → number_of text ≡ Some (read_on 0 text)
numeral_is text e = ap (λ b. if b then Some (read_on 0 text) else None) e

below_is : (n bound : ℕ) → n < bound → below bound (Some n) ≡ Some n
below_is n bound l = grind (arith, nat_tests, l)

not_below : (n bound : ℕ) → bound ≤ n → below bound (Some n) ≡ None
not_below n bound l = grind (arith, nat_tests, l)

module _ {E : Type 0} (text : List ℕ) (r : Result ℕ E) (parsed : ParsesUnsigned 32 10 text r) (form : is_numeral text ≡ true) where
  spells : OkIff r ((0 < length text) × (read_on 0 text < 2 ^ 32)) (read_on 0 text)
  spells = parse_digits digits 32 text r parsed (numeral_digits text form)

  pub parsed_ok : (n : ℕ) → r ≡ Ok n → Some n ≡ below (2 ^ 32) (number_of text)
  parsed_ok n is =
      let at = OkIff-at_ok r ((0 < length text) × (read_on 0 text < 2 ^ 32)) (read_on 0 text) n spells is in
      ap Some at.1 ∙ (sym (below_is (read_on 0 text) (2 ^ 32) at.0.1) ∙ ap (below (2 ^ 32)) (sym (numeral_is text form)))

  pub parsed_err : (d : E) → r ≡ Err d → None ≡ below (2 ^ 32) (number_of text)
  parsed_err d is =
      let refuted = OkIff-at_err r ((0 < length text) × (read_on 0 text < 2 ^ 32)) (read_on 0 text) d spells is in
      by_size (grind arith) refuted
    where
      by_size : (read_on 0 text < 2 ^ 32) ⊎ (2 ^ 32 ≤ read_on 0 text) → ((0 < length text) × (read_on 0 text < 2 ^ 32) → ⊥) → None ≡ below (2 ^ 32) (number_of text)
      by_size (inl small) refuted = absurd (refuted (numeral_nonempty text form, small))
      by_size (inr large) refuted = sym (not_below (read_on 0 text) (2 ^ 32) large) ∙ ap (below (2 ^ 32)) (sym (numeral_is text form))

none_some : (k : ℕ) → None ≡ Some k → ⊥
none_some k e = cc e

-- what has no number below 2 ^ 32 has none below a smaller bound
pub none_below : (bound : ℕ) (q o : Option ℕ) → bound ≤ 2 ^ 32 → o ≡ below (2 ^ 32) q → o ≡ None → None ≡ below bound q
none_below bound None o l e n = refl
none_below bound (Some k) o l e n = by_size (grind arith) (sym n ∙ e)
  where
    by_size : (k < 2 ^ 32) ⊎ (2 ^ 32 ≤ k) → None ≡ below (2 ^ 32) (Some k) → None ≡ below bound (Some k)
    by_size (inl small) e = absurd (none_some k (e ∙ below_is k (2 ^ 32) small))
    by_size (inr large) e = sym (not_below k bound (omega (arith, l, large)))
