-- Text that no reader of XML takes for more than text.
use Rattle.std.specs.Prelude.{◌≡◌, ◌≢◌, ℕ, false, List, [], ◌∷◌, ◌++◌, Contains, codes}
use Rattle.bully_picture.specs.Escaping.{is_forbidden}

-- after an &, the names that XML has for what it keeps for itself
abbrev pub entities : List (List ℕ)
entities = codes "lt;" ∷ codes "gt;" ∷ codes "amp;" ∷ codes "quot;" ∷ codes "#39;" ∷ []

-- one of them stands first in the text
abbrev pub BeginsEntity : List ℕ → Type 0
BeginsEntity text = (name : List ℕ) × (rest : List ℕ) × Contains entities name × (text ≡ name ++ rest)

-- a letter, before these ones, that starts or ends no tag, ends no attribute, is no control character, and is an & only
-- before the name of an entity
pub record IsHarmlessLetter (letter : ℕ) (behind : List ℕ) : Type 0 where
  pub no_less_than : letter ≢ 60
  pub no_greater_than : letter ≢ 62
  pub no_double_quote : letter ≢ 34
  pub no_single_quote : letter ≢ 39
  pub no_control : is_forbidden letter ≡ false
  pub entity : letter ≡ 38 → BeginsEntity behind

-- all letters of the text are so, each before what comes after it
abbrev pub IsHarmless : List ℕ → Type 0
IsHarmless letters = (before behind : List ℕ) (letter : ℕ) → letters ≡ before ++ letter ∷ behind
    → IsHarmlessLetter letter behind
