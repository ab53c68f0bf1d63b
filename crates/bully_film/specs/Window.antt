-- Which rows of a trace are shown.
use Rattle.std.specs.Prelude.{ℕ, ◌+◌, ◌<◌, ◌≤◌, Bool, List, Option, Some, None, min, nat_le, nat_lt, ◌==◌, ◌&&◌}
use Rattle.std.specs.Prelude.{if◌then◌else◌}
use Rattle.std.specs.List.{after_first, before_first}
use Rattle.std.specs.Option.{option_and_then}
use Rattle.bully_table.specs.Numeral.{number_of}
use Rattle.bully_film.specs.declared.window.TheConstants.{BEYOND, WINDOW_MAX, WINDOW_ROWS}

-- those from one row to another, and of these the last ones, so many; rows are counted from 1, the header
pub record WindowState : Type 0 where
  pub from : ℕ
  pub to : ℕ
  pub most : ℕ

-- the header is never shown, and where it is the last row, none is
pub record IsWindow (window : WindowState) : Type 0 where
  pub header : 2 ≤ window.from
  pub some : 0 < window.most
  pub last : window.from ≤ window.to + 1

-- rows from one to another can be asked for: the first is one, it isn't after the last, and they aren't too many
abbrev pub can_be_shown : ℕ → ℕ → Bool
can_be_shown from to = nat_lt 0 from && nat_le from to && nat_lt to (from + WINDOW_MAX)

-- the row, or one that no trace has in place of a later one
abbrev pub row_or_beyond : ℕ → ℕ
row_or_beyond row = min row BEYOND

-- the row, or the one after the header in place of that
abbrev pub behind_header : ℕ → ℕ
behind_header row = if nat_lt row 2 then 2 else row

-- the last rows of a trace
abbrev pub at_the_end : WindowState
at_the_end = record { from = 2; to = BEYOND; most = WINDOW_ROWS }

-- the window of these rows
abbrev pub asked : ℕ → ℕ → WindowState
asked from to = record { from = behind_header (row_or_beyond from); to = row_or_beyond to; most = WINDOW_MAX }

abbrev pub window_between : ℕ → ℕ → Option WindowState
window_between from to = if can_be_shown from to then Some (asked from to) else None

abbrev pub is_dash : ℕ → Bool
is_dash b = b == 45

-- the window that a text asks for: of two numbers, before and after its first dash; none where there aren't two, or
-- where their rows can't be asked for
abbrev pub window_in : List ℕ → Option WindowState
window_in text =
    option_and_then (λ from. option_and_then (λ to. window_between from to) (number_of (after_first is_dash text)))
    (number_of (before_first is_dash text))
