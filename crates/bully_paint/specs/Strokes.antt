-- What goes out of bytes that are written one by one: a word that has a colour is held back up to its end, and goes out
-- as it is painted.
use Rattle.std.specs.Prelude.{◌≡◌, ℕ, ◌-◌, Bool, true, false, not, ◌&&◌, ◌==◌, List, [], ◌∷◌, ◌++◌, codes, drop, length}
use Rattle.std.specs.Prelude.{slice_get, take, if◌then◌else◌}
use Rattle.std.specs.List.{list_any}
use Rattle.std.specs.Option.{option_map_or}
use Rattle.std.specs.Str.{bytes_eq}
use Rattle.bully_paint.specs.Words.{ending_of, every_word, is_separator, painting_of, text_of}
use Rattle.bully_paint.specs.declared.words.Word.{Word}

-- the front of a word that is held back, and whether a word goes on that has no colour
pub record Brush : Type 0 where
  pub held : List ℕ
  pub within : Bool

-- the bytes that go out at one more, and the brush after it
pub record Stroke : Type 0 where
  pub out : List ℕ
  pub brush : Brush

-- nothing is held back, and no word goes on
abbrev pub clean : Brush
clean = record { held = []; within = false }

abbrev pub begins : List ℕ → List ℕ → Bool
begins text front = bytes_eq (take (length front) text) front

-- some word starts so
abbrev pub is_front : List ℕ → Bool
is_front front = list_any (λ word. begins (text_of word) front) every_word

abbrev pub is_escape : ℕ → Bool
is_escape b = b == 27

-- the byte goes on with a word that may have a colour
abbrev pub joins : Brush → ℕ → Bool
joins brush b = not brush.within && (is_front (brush.held ++ b ∷ []) && not (is_escape b))

-- it goes on with one after the article in these bytes, which then is no part of it
abbrev pub joins_article : List ℕ → ℕ → Bool
joins_article held b = begins held (codes "the ") && is_front (drop 4 held ++ b ∷ [])

abbrev pub joins_title : List ℕ → ℕ → Bool
joins_title held b = joins_article held b && not (is_escape b)

-- whether a word without a colour goes on after these bytes
abbrev pub goes_within : Bool → List ℕ → Bool
goes_within within bytes = option_map_or (λ last. not (is_separator last)) (slice_get bytes (length bytes - 1)) within

-- a byte with which no word starts: an ESC is text, with a mark after it
abbrev pub passed : List ℕ → ℕ → Stroke
passed out b =
    if is_escape b
    then record { out = out ++ 27 ∷ 27 ∷ codes "[0m"; brush = record { held = []; within = true } }
    else record { out = out ++ b ∷ []; brush = record { held = []; within = not (is_separator b) } }

-- the word that was held back ended, and is out
abbrev pub begun : List ℕ → Bool → ℕ → Stroke
begun out within b =
    if joins (record { held = []; within = within }) b
    then record { out = out; brush = record { held = b ∷ []; within = within } }
    else passed out b

abbrev pub stroke : Brush → ℕ → Stroke
stroke brush b =
    if joins brush b then record { out = []; brush = record brush { held = brush.held ++ b ∷ [] } }
    else if joins_title brush.held b
    then record { out = codes "the "; brush = record brush { held = drop 4 brush.held ++ b ∷ [] } }
    else begun (ending_of brush.held b) (goes_within brush.within brush.held) b

-- after several bytes
abbrev pub strokes : Brush → List ℕ → Stroke
strokes brush [] = record { out = []; brush = brush }
strokes brush (b ∷ bytes) =
    let one = stroke brush b in
    let more = strokes one.brush bytes in
    record { out = one.out ++ more.out; brush = more.brush }

-- what goes out of a word up to what parts it from the next one is its painting, and nothing is held back then
abbrev pub PaintsWords : Type 0
PaintsWords =
    (word : Word) (b : ℕ) → is_separator b ≡ true
    → strokes clean (text_of word ++ b ∷ []) ≡ record { out = painting_of word ++ b ∷ []; brush = clean }
