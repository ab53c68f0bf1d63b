-- Text within an XML document.
use Rattle.std.specs.Str.{chars}
use Rattle.std.specs.Prelude.{ℕ, Bool, List, [], ◌∷◌, ◌++◌, ◌==◌, ◌||◌, ◌&&◌, length, take, codes, encode_utf8, nat_lt}
use Rattle.std.specs.Prelude.{nat_le, if◌then◌else◌}

-- a control character, or one that no XML document has
abbrev pub is_forbidden : ℕ → Bool
is_forbidden c = nat_lt c 32 || (nat_le 127 c && nat_lt c 160) || (c == 65534) || (c == 65535)

-- a letter as XML takes it: what it keeps for itself by its name, and U+FFFD in place of what it forbids
abbrev pub escaped_letter : ℕ → List ℕ
escaped_letter c =
    if c == 60 then codes "&lt;"
    else (if c == 62 then codes "&gt;"
    else (if c == 38 then codes "&amp;"
    else (if c == 34 then codes "&quot;"
    else (if c == 39 then codes "&#39;"
    else (if is_forbidden c then encode_utf8 65533 else encode_utf8 c)))))

abbrev pub escaped : List ℕ → List ℕ
escaped [] = []
escaped (c ∷ cs) = escaped_letter c ++ escaped cs

-- the first letters, so many, with an ellipsis after them where there are more
abbrev pub shortened : ℕ → List ℕ → List ℕ
shortened most cs = if nat_le (length cs) most then cs else take most cs ++ 8230 ∷ []

-- what is shown where the pointer rests
abbrev pub hover_text : List ℕ → List ℕ
hover_text line = codes "<title>" ++ escaped (chars line) ++ codes "</title>"

-- so many letters of a line, and, where it has more bytes, all of it for where the pointer rests
abbrev pub cut_text : ℕ → List ℕ → List ℕ
cut_text letters line =
    escaped (shortened letters (chars line)) ++ (if nat_lt letters (length line) then hover_text line else [])
