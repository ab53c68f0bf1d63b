-- Numbers as text: `0`, or decimal digits without a leading zero.
use Rattle.std.specs.Prelude.{ℕ, ◌+◌, ◌-◌, ◌*◌, Bool, false, List, [], ◌∷◌, Option, Some, None, ◌&&◌, not, nat_le, ◌==◌}
use Rattle.std.specs.Prelude.{if◌then◌else◌}
use Rattle.std.specs.List.{list_all}

abbrev pub is_digit : ℕ → Bool
is_digit b = nat_le 48 b && nat_le b 57

abbrev pub is_numeral : List ℕ → Bool
is_numeral [] = false
is_numeral (b ∷ []) = is_digit b
is_numeral (b ∷ c ∷ rest) = is_digit b && not (b == 48) && list_all is_digit (c ∷ rest)

-- the number of these digits after those of n
abbrev pub read_on : ℕ → List ℕ → ℕ
read_on n [] = n
read_on n (b ∷ rest) = read_on (n * 10 + (b - 48)) rest

-- the number that the text spells, however long it is
abbrev pub number_of : List ℕ → Option ℕ
number_of text = if is_numeral text then Some (read_on 0 text) else None
