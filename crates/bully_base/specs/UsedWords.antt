-- How many words of a set of nodes are used.
use Rattle.std.specs.Prelude.{◌≡◌, ℕ, ◌+◌, List, [], ◌∷◌, length, take, ◌==◌, ◌&&◌, if◌then◌else◌}
use Rattle.bully_base.specs.declared.node_set.TheConstants.{WORDS}
use Rattle.bully_base.specs.NodeSet.{words_of, AreWords}

-- how many words there are up to the last that isn't 0
unfoldable pub used_of : List ℕ → ℕ
used_of [] = 0
used_of (w ∷ ws) = if (used_of ws == 0) && (w == 0) then 0 else used_of ws + 1

-- the words of a set up to the last that isn't 0
abbrev pub used_words : List ℕ → List ℕ
used_words ms = take (used_of (words_of ms)) (words_of ms)

-- a whole row of words, so many of which are used
abbrev pub IsRow : List ℕ → ℕ → Type 0
IsRow words used = (length words ≡ WORDS) × AreWords words × (used ≡ used_of words)
