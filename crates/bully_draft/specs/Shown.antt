-- How a text that comes from outside is shown.
use Rattle.std.specs.Prelude.{◌≡◌, ℕ, zero, suc, Bool, true, false, List, [], ◌∷◌, ◌++◌, ◌||◌, ◌&&◌, ◌==◌, ⊤, codes}
use Rattle.std.specs.Prelude.{length, map, nat_lt, nat_le, take, if◌then◌else◌}
use Rattle.std.specs.List.{join_with_byte}
use Rattle.std.specs.Str.{chars, encode_utf8_all}

-- a control character, a separator of lines (U+2028) or of paragraphs (U+2029), or a mark that turns the direction of
-- the text around it: one that has a direction itself (U+061C, U+200E, U+200F), an embedding or an override (U+202A to
-- U+202E), or an isolate (U+2066 to U+2069)
abbrev pub is_control : ℕ → Bool
is_control c =
    nat_lt c 32 || (nat_le 127 c && nat_lt c 160) || (c == 0x61C) || (nat_le 0x200E c && nat_le c 0x200F)
    || (nat_le 0x2028 c && nat_le c 0x202E) || (nat_le 0x2066 c && nat_le c 0x2069)

-- a letter as it is shown: a question mark in place of one of these
abbrev pub shown_letter : ℕ → ℕ
shown_letter c = if is_control c then 63 else c

-- what is written of a text
abbrev pub shown : List ℕ → List ℕ
shown text = encode_utf8_all (map shown_letter (chars text))

-- none of the letters is one of these
abbrev pub AllPlain : List ℕ → Type 0
AllPlain [] = ⊤
AllPlain (c ∷ cs) = (is_control c ≡ false) × AllPlain cs

-- none of these lines has one
abbrev pub ArePlain : List (List ℕ) → Type 0
ArePlain [] = ⊤
ArePlain (line ∷ lines) = AllPlain (chars line) × ArePlain lines

-- their text, with a line feed after each
abbrev pub lines_text : List (List ℕ) → List ℕ
lines_text [] = []
lines_text (line ∷ lines) = line ++ (codes "\n" ++ lines_text lines)

-- a printed ASCII character
abbrev pub is_printed : ℕ → Bool
is_printed byte = nat_le 32 byte && nat_le byte 126

-- a byte as it is shown: a question mark in place of any other one
abbrev pub shown_byte : ℕ → ℕ
shown_byte byte = if is_printed byte then byte else 63

-- all of them are printed ASCII characters
abbrev pub AllPrinted : List ℕ → Type 0
AllPrinted [] = ⊤
AllPrinted (byte ∷ bytes) = (is_printed byte ≡ true) × AllPrinted bytes

-- bytes as they are shown, up to so many, and two dots if these aren't all
abbrev pub cut_shown : ℕ → List ℕ → List ℕ
cut_shown most bytes = map shown_byte (take most bytes) ++ (if nat_lt most (length bytes) then codes ".." else [])

-- a field of a row, counted from 0, as it stands there: after a comma, but for the first
abbrev pub parted : ℕ → List ℕ → List ℕ
parted zero field = field
parted (suc place) field = 44 ∷ field

-- a row of these fields as it is shown
abbrev pub row_shown : List (List ℕ) → List ℕ
row_shown fields = cut_shown 60 (join_with_byte 44 fields)
