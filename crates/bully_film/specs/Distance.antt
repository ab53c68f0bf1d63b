-- How far apart two numbers are, digit by digit.
use Rattle.std.specs.Prelude.{ℕ, ◌+◌, ◌-◌, List, Option, Some, None, length, min, nat_le, take, if◌then◌else◌}
use Rattle.bully_table.specs.Numeral.{read_on}
use Rattle.bully_film.specs.declared.window.TheConstants.{BEYOND}

-- by how much the second number is above the first, at most so much; none where it is below
abbrev pub distance : ℕ → ℕ → Option ℕ
distance from to = if nat_le from to then Some (min (to - from) BEYOND) else None

-- the number that a text has in the first of so many places, which end with it: zeros stand before a shorter text
abbrev pub number_up_to : List ℕ → ℕ → ℕ → ℕ
number_up_to text places place = read_on 0 (take (place + length text - places) text)
