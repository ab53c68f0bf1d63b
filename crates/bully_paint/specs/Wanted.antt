-- Who wants colours.
use Rattle.std.specs.Prelude.{ℕ, Bool, true, false, not, ◌&&◌, List, [], Option, Some, None, codes}
use Rattle.std.specs.Str.{bytes_eq}

-- a variable isn't set, or to nothing
abbrev pub is_unset : Option (List ℕ) → Bool
is_unset None = true
is_unset (Some text) = bytes_eq text []

-- a terminal that says how it is called, and not that it takes bare text alone
abbrev pub is_able : Option (List ℕ) → Bool
is_able None = false
is_able (Some term) = not (bytes_eq term []) && not (bytes_eq term (codes "dumb"))

-- by the values of NO_COLOR and TERM
abbrev pub wants_colours : Option (List ℕ) → Option (List ℕ) → Bool
wants_colours no_color term = is_unset no_color && is_able term
