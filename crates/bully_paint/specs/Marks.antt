-- Text with marks in it: sequences ESC [ .. m, by which a terminal changes its colour.
use Rattle.std.specs.Prelude.{ℕ, Bool, true, false, ◌==◌, List, [], ◌∷◌, ◌++◌, if◌then◌else◌}

-- where a byte stands: in text, after an ESC, or in a mark
pub data Place : Type 0 where
  in_text : Place
  behind_escape : Place
  in_mark : Place

-- where the byte after this one stands
abbrev pub next : Place → ℕ → Place
next in_text b = if b == 27 then behind_escape else in_text
next behind_escape b = if b == 91 then in_mark else if b == 27 then behind_escape else in_text
next in_mark b = if b == 109 then in_text else in_mark

-- the bytes of text that are known with this byte: an ESC is one if no [ is after it
abbrev pub known : Place → ℕ → List ℕ
known in_text b = if b == 27 then [] else b ∷ []
known behind_escape b = if b == 91 then [] else if b == 27 then 27 ∷ [] else 27 ∷ b ∷ []
known in_mark b = []

-- the text of what starts at a place
abbrev pub text_from : Place → List ℕ → List ℕ
text_from place [] = []
text_from place (b ∷ bs) = known place b ++ text_from (next place b) bs

-- the place after it
abbrev pub place_from : Place → List ℕ → Place
place_from place [] = place
place_from place (b ∷ bs) = place_from (next place b) bs

abbrev pub is_text : Place → Bool
is_text in_text = true
is_text behind_escape = false
is_text in_mark = false

-- what was written, without the marks
abbrev pub unpainted : List ℕ → List ℕ
unpainted bytes = text_from in_text bytes

-- no mark is left open, and no ESC
abbrev pub is_whole : List ℕ → Bool
is_whole bytes = is_text (place_from in_text bytes)
