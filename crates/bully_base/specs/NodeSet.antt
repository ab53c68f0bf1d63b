-- Sets of nodes, as the lists of their numbers in falling order.
use Rattle.std.specs.Prelude.{◌≡◌, ℕ, zero, suc, ◌+◌, ◌-◌, ◌*◌, ◌/◌, ◌%◌, ◌^◌, ◌<◌, Bool, List, [], ◌∷◌, Option, Some}
use Rattle.std.specs.Prelude.{None, filter, nat_lt, ◌==◌, not, if◌then◌else◌}
use Rattle.std.specs.Int.{bit_at}
use Rattle.bully_base.specs.declared.TheConstants.{NODES_MAX}
use Rattle.bully_base.specs.declared.node_set.TheConstants.{WORDS}

-- the set with one more member
abbrev pub with_node : ℕ → List ℕ → List ℕ
with_node k [] = k ∷ []
with_node k (m ∷ ms) = if nat_lt m k then k ∷ m ∷ ms else (if m == k then m ∷ ms else m ∷ with_node k ms)

-- the set without this member
abbrev pub without_node : ℕ → List ℕ → List ℕ
without_node k ms = filter (λ m. not (m == k)) ms

-- the members below k
abbrev pub below_node : ℕ → List ℕ → List ℕ
below_node k ms = filter (λ m. nat_lt m k) ms

-- the highest member
abbrev pub highest_of : List ℕ → Option ℕ
highest_of [] = None
highest_of (m ∷ ms) = Some m

-- the lowest member
abbrev pub lowest_of : List ℕ → Option ℕ
lowest_of [] = None
lowest_of (m ∷ []) = Some m
lowest_of (m ∷ n ∷ ms) = lowest_of (n ∷ ms)

-- each number is below the one before it
abbrev pub IsFallingBelow : ℕ → List ℕ → Type 0
IsFallingBelow bound [] = Unit {0}
IsFallingBelow bound (m ∷ ms) = (0 < m) × (m < bound) × IsFallingBelow m ms

-- whether bit k of the number is set
abbrev pub is_set : ℕ → ℕ → Bool
is_set number k = bit_at number k == 1

-- which nodes are members: bit k of the number stands for node k + 1. Of the lowest n bits
unfoldable pub members_among : ℕ → ℕ → List ℕ
members_among number zero = []
members_among number (suc n) = if is_set number n then (n + 1) ∷ members_among number n else members_among number n

-- the number in which exactly the bits of these members are set
unfoldable pub word_of : List ℕ → ℕ
word_of [] = 0
word_of (m ∷ ms) = 2 ^ (m - 1) + word_of ms

-- the number that these words of 64 bits make, the lowest word first
unfoldable pub number_of : List ℕ → ℕ
number_of [] = 0
number_of (w ∷ ws) = number_of ws * 2 ^ 64 + w

-- the n lowest words of a number
unfoldable pub words_among : ℕ → ℕ → List ℕ
words_among number zero = []
words_among number (suc n) = number % 2 ^ 64 ∷ words_among (number / 2 ^ 64) n

-- the members of a row of words: those of the highest word first, each word's raised by 64 for each word before it
abbrev pub members_of : List ℕ → List ℕ
members_of words = members_among (number_of words) NODES_MAX

-- the row of words that has these members
abbrev pub words_of : List ℕ → List ℕ
words_of ms = words_among (word_of ms) WORDS

-- each is a word of 64 bits
abbrev pub AreWords : List ℕ → Type 0
AreWords [] = Unit {0}
AreWords (w ∷ ws) = (w < 2 ^ 64) × AreWords ws

-- bit k of the word is set, and none above it
pub record IsHighestBit (word k : ℕ) : Type 0 where
  pub within : k < 64
  pub set : bit_at word k ≡ 1
  pub above : (i : ℕ) → k < i → bit_at word i ≡ 0

-- bit k of the word is set, and none below it
pub record IsLowestBit (word k : ℕ) : Type 0 where
  pub within : k < 64
  pub set : bit_at word k ≡ 1
  pub below : (i : ℕ) → i < k → bit_at word i ≡ 0
