-- The words of a set can be read off its members.
use Rattle.std.proofs.Common.{◌≡◌, ℕ, zero, suc, ◌+◌, ◌*◌, ◌/◌, ◌<◌, ◌%◌, ◌^◌, List, [], ◌∷◌, length, arith, refl, sym}
use Rattle.std.proofs.Common.{◌∙◌, ap, mod-eq_of_lt, ◌⊎◌, inl, inr}
use Rattle.std.specs.Int.{bit_at}
use Rattle.std.proofs.lemmas.Bool.Decides.{nat_tests}
use Rattle.std.proofs.lemmas.Nat.{mod-pow-add, mul-add-lt, mod_low, shr_high, pow-add, pow_pos}
use Rattle.bully_base.specs.declared.TheConstants.{NODES_MAX}
use Rattle.bully_base.specs.declared.node_set.TheConstants.{WORDS}
use Rattle.bully_base.specs.NodeSet.{members_among, word_of, number_of, words_among, members_of, words_of, AreWords}

pub is_bit : (number n : ℕ) → (bit_at number n ≡ 1) ⊎ (bit_at number n ≡ 0)
is_bit number n = of_two (bit_at number n) (omega arith)
  where
    of_two : (b : ℕ) → b < 2 → (b ≡ 1) ⊎ (b ≡ 0)
    of_two zero l = inr refl
    of_two (suc zero) l = inl refl
    of_two (suc (suc b)) l = absurd (omega arith)

-- bit n, and the bits below it
pub next_bit : (number n : ℕ) → number % 2 ^ suc n ≡ bit_at number n * 2 ^ n + number % 2 ^ n
next_bit number n = let e : suc n ≡ 1 + n = omega arith in ap (λ k. number % 2 ^ k) e ∙ mod-pow-add number 1 n

pub word_of-members_among : (number n : ℕ) → word_of (members_among number n) ≡ number % 2 ^ n
unfolding members_among word_of
word_of-members_among number zero = omega arith
word_of-members_among number (suc n) = by_bit (word_of-members_among number n) (is_bit number n)
  where
    by_bit : word_of (members_among number n) ≡ number % 2 ^ n → (bit_at number n ≡ 1) ⊎ (bit_at number n ≡ 0)
        → word_of (members_among number (suc n)) ≡ number % 2 ^ suc n
    by_bit more (inl e) = grind (arith, nat_tests, e, next_bit number n, more)
    by_bit more (inr e) = grind (arith, nat_tests, e, next_bit number n, more)

-- so many words make a number of so many bits
pub number_of-lt : (ws : List ℕ) → AreWords ws → number_of ws < 2 ^ (64 * length ws)
unfolding number_of
number_of-lt [] h = pow_pos (64 * 0)
number_of-lt (w ∷ ws) h =
    let step : number_of ws * 2 ^ 64 + w < 2 ^ 64 * 2 ^ (64 * length ws) =
    mul-add-lt (number_of ws) (2 ^ 64) w (2 ^ (64 * length ws)) (number_of-lt ws h.1) h.0 in
    let e : 64 + 64 * length ws ≡ 64 * suc (length ws) = omega arith in
    let room : 2 ^ 64 * 2 ^ (64 * length ws) ≡ 2 ^ (64 * suc (length ws)) =
    sym (pow-add 2 64 (64 * length ws)) ∙ ap (λ (k : ℕ). 2 ^ k) e in
    rw room at step

-- the words are those of the number that they make
pub words_among-number_of : (ws : List ℕ) → AreWords ws → words_among (number_of ws) (length ws) ≡ ws
unfolding number_of words_among
words_among-number_of [] h = refl
words_among-number_of (w ∷ ws) h =
    let low : (number_of ws * 2 ^ 64 + w) % 2 ^ 64 ≡ w = mod_low (number_of ws) 64 w h.0 in
    let high : (number_of ws * 2 ^ 64 + w) / 2 ^ 64 ≡ number_of ws = shr_high (number_of ws) 64 w h.0 in
    rw (low, high, words_among-number_of ws h.1) refl

-- a whole row of words has bits for all nodes, and for nothing else
pub row-lt : (ws : List ℕ) → length ws ≡ WORDS → AreWords ws → number_of ws < 2 ^ NODES_MAX
row-lt ws size h =
    let e : 64 * length ws ≡ NODES_MAX = omega (arith, size) in
    rw e at (number_of-lt ws h)

pub word_of-members_of : (ws : List ℕ) → length ws ≡ WORDS → AreWords ws → word_of (members_of ws) ≡ number_of ws
word_of-members_of ws size h = word_of-members_among (number_of ws) NODES_MAX ∙ mod-eq_of_lt (row-lt ws size h)

pub words_of-members_of : (ws : List ℕ) → length ws ≡ WORDS → AreWords ws → words_of (members_of ws) ≡ ws
words_of-members_of ws size h =
    ap (λ (n : ℕ). words_among n WORDS) (word_of-members_of ws size h)
    ∙ (ap (λ (k : ℕ). words_among (number_of ws) k) (sym size) ∙ words_among-number_of ws h)
