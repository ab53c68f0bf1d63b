-- A text of which no row has more bytes than it may.
use Rattle.std.specs.Prelude.{◌≡◌, ℕ, ◌+◌, ◌≤◌, ◌++◌, ◌==◌, ◌||◌, Bool, true, false, List, [], ◌∷◌, length, take, ⊤}
use Rattle.std.specs.Prelude.{Option, Some, None, nat_lt, option_map, if◌then◌else◌}
use Rattle.bully_text.specs.declared.TheConstants.{ROW_BYTES_MAX}
use Rattle.bully_text.specs.declared.bounded.BoundedRows.{BoundedRows}
use Rattle.bully_text.specs.declared.bounded.Place.{Place}
use Rattle.bully_text.specs.declared.bounded.Taken.{Taken}

-- the byte ends a row, if it isn't quoted
abbrev pub ends_row : ℕ → Bool
ends_row byte = byte == 10 || byte == 13

-- a field starts after the byte, if it isn't quoted
abbrev pub starts_field : ℕ → Bool
starts_field byte = byte == 44 || ends_row byte

-- where one is after a byte that isn't quoted, and is no quote
abbrev pub place_outside : ℕ → Place
place_outside byte = if starts_field byte then Place.FieldStart else Place.InField

-- where one is after a byte. A byte-order mark at the start of the text is none of a field
abbrev pub place_after : Place → ℕ → Place
place_after Place.TextStart byte = if byte == 239 then Place.MarkBegun else if byte == 34 then Place.InQuotes else
    place_outside byte
place_after Place.MarkBegun byte = if byte == 187 then Place.MarkBehind else place_outside byte
place_after Place.MarkBehind byte = if byte == 191 then Place.FieldStart else place_outside byte
place_after Place.FieldStart byte = if byte == 34 then Place.InQuotes else place_outside byte
place_after Place.InField byte = place_outside byte
place_after Place.InQuotes byte = if byte == 34 then Place.AfterQuote else Place.InQuotes
place_after Place.AfterQuote byte = if byte == 34 then Place.InQuotes else place_outside byte

-- a byte that is no quote is none of a quoted field there, and of no byte-order mark
abbrev pub IsPlain : Place → Type 0
IsPlain Place.TextStart = ⊥
IsPlain Place.MarkBegun = ⊥
IsPlain Place.MarkBehind = ⊥
IsPlain Place.FieldStart = ⊤
IsPlain Place.InField = ⊤
IsPlain Place.InQuotes = ⊥
IsPlain Place.AfterQuote = ⊤

-- the place is within a quoted field
abbrev pub is_quoted : Place → Bool
is_quoted Place.TextStart = false
is_quoted Place.MarkBegun = false
is_quoted Place.MarkBehind = false
is_quoted Place.FieldStart = false
is_quoted Place.InField = false
is_quoted Place.InQuotes = true
is_quoted Place.AfterQuote = false

-- the byte ends a row
abbrev pub ends_at : Place → ℕ → Bool
ends_at Place.TextStart byte = ends_row byte
ends_at Place.MarkBegun byte = ends_row byte
ends_at Place.MarkBehind byte = ends_row byte
ends_at Place.FieldStart byte = ends_row byte
ends_at Place.InField byte = ends_row byte
ends_at Place.InQuotes byte = false
ends_at Place.AfterQuote byte = ends_row byte

-- how many bytes of its row there are after a byte, so many before it; none where the row has more than it may
abbrev pub count_after : Place → ℕ → ℕ → Option ℕ
count_after place count byte = if ends_at place byte then Some 0 else if nat_lt count ROW_BYTES_MAX
    then Some (count + 1) else None

-- the text up to the first row that has more bytes than it may, and as many of that one as it may have
unfoldable pub bounded_from : Place → ℕ → List ℕ → List ℕ
bounded_from place count [] = []
bounded_from place count (byte ∷ rest) =
    elim (count_after place count byte) [
      | None ↦ []
      | Some more ↦ byte ∷ bounded_from (place_after place byte) more rest
    ]

abbrev pub bounded : List ℕ → List ℕ
bounded text = bounded_from Place.TextStart 0 text

-- where one is after what was given, and whether that was ended within a row
abbrev pub place_of : {R : Type 0} → BoundedRows R → Place
place_of rows = rows.place

abbrev pub is_cut_of : {R : Type 0} → BoundedRows R → Bool
is_cut_of rows = rows.is_cut

-- what is left to give, where what is left underneath is known
abbrev pub bounded_left : {R : Type 0} → (R → Option (List ℕ)) → BoundedRows R → Option (List ℕ)
bounded_left remaining rows =
    if rows.is_cut then Some [] else option_map (bounded_from rows.place rows.count) (remaining rows.reader)

-- of these bytes so many are given, and what then is given of the rest
pub record Gives (place : Place) (count : ℕ) (given : List ℕ) (taken : Taken) : Type 0 where
  pub within : taken.bytes ≤ length given
  pub whole : taken.is_cut ≡ false → taken.bytes ≡ length given
  pub left : (rest : List ℕ)
      → bounded_from place count (given ++ rest) ≡ take taken.bytes given ++ (if taken.is_cut then [] else
      bounded_from taken.place taken.count rest)
