-- The words that have a colour, and what is written of each.
use Rattle.std.specs.Prelude.{ℕ, Bool, List, [], ◌∷◌, ◌++◌, Option, Some, None, codes, ◌||◌, ◌==◌, if◌then◌else◌}
use Rattle.std.specs.List.{find}
use Rattle.std.specs.Str.{bytes_eq}
use Rattle.bully_paint.specs.declared.words.Word.{Word}

abbrev pub text_of : Word → List ℕ
text_of Word.Lawful = codes "lawful"
text_of Word.Refused = codes "refused"
text_of Word.Differs = codes "differs"
text_of Word.Election = codes "election"
text_of Word.Reorganization = codes "reorganization"
text_of Word.Normal = codes "normal"
text_of Word.Down = codes "down"
text_of Word.Rule = codes "the rule"
text_of Word.Step = codes "the step"
text_of Word.Fault = codes "bully:"
text_of Word.Mistake = codes "error:"

-- its style, by the number that a terminal knows it by: 1 bold, 2 dim, 31 red, 32 green, 33 yellow, 36 cyan
abbrev pub style_of : Word → List ℕ
style_of Word.Lawful = codes "32"
style_of Word.Refused = codes "31"
style_of Word.Differs = codes "31"
style_of Word.Election = codes "33"
style_of Word.Reorganization = codes "36"
style_of Word.Normal = codes "32"
style_of Word.Down = codes "2"
style_of Word.Rule = codes "1"
style_of Word.Step = codes "1"
style_of Word.Fault = codes "31"
style_of Word.Mistake = codes "31"

-- ESC [ style m
abbrev pub mark_of : List ℕ → List ℕ
mark_of style = 27 ∷ 91 ∷ style ++ codes "m"

-- the word between a mark of its style and the one that ends all styles
abbrev pub painting_of : Word → List ℕ
painting_of word = mark_of (style_of word) ++ text_of word ++ mark_of (codes "0")

abbrev pub every_word : List Word
every_word =
    Word.Lawful ∷ Word.Refused ∷ Word.Differs ∷ Word.Election ∷ Word.Reorganization ∷ Word.Normal ∷ Word.Down
    ∷ Word.Rule ∷ Word.Step
    ∷ Word.Fault ∷ Word.Mistake ∷ []

-- the word of this text
abbrev pub word_named : List ℕ → Option Word
word_named text = find (λ word. bytes_eq text (text_of word)) every_word

-- what parts words: a space, a line's end and , : ; ( )
abbrev pub is_separator : ℕ → Bool
is_separator b = b == 32 || b == 10 || b == 44 || b == 58 || b == 59 || b == 40 || b == 41

abbrev pub painted_as : Option Word → List ℕ → List ℕ
painted_as None bytes = bytes
painted_as (Some word) bytes = painting_of word

-- what is written of these bytes, after which this one stands: a whole word has its colour, and all else stays
abbrev pub ending_of : List ℕ → ℕ → List ℕ
ending_of bytes b = if is_separator b then painted_as (word_named bytes) bytes else bytes
