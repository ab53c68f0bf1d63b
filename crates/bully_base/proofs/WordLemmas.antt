-- The bits of a number, and the members that they stand for.
use Rattle.std.proofs.Common.{◌≡◌, ◌≢◌, ℕ, zero, suc, ◌+◌, ◌<◌, ◌≤◌, Bool, true, false, List, [], ◌∷◌, length, arith, refl, sym, ap, pow-suc, ◌∙◌, ◌⊎◌, inl, inr, ◌-◌, ◌*◌, ◌/◌, ◌%◌, ◌^◌, ◌↔◌, Contains, Some, if◌then◌else◌, min}
use Rattle.std.specs.Int.{bit_at, bit_not, w64}
use Rattle.std.specs.Int.RustNames.{bit_and, bit_or}
use Rattle.std.specs.Int.Count.{count_leading_zeros, count_trailing_zeros, ones, ones-ones}
use Rattle.std.proofs.lemmas.Bool.Decides.{nat_tests}
use Rattle.std.proofs.lemmas.Nat.{pow_pos, shr_split, leading_top, ones_cat, div-mul-add}
use Rattle.std.proofs.lemmas.Nat.Bits.{and_pow, bit_at_and, bit_at_or, bit_at_not, bit_at-pow_same, bit_at-pow_other, bit_at_above, bit_at_cat_low, bit_at-trailing_zeros, bit_at-zero}
use Rattle.bully_base.specs.NodeSet.{members_among, is_set, with_node, without_node, below_node, highest_of, lowest_of, IsFallingBelow, IsHighestBit, IsLowestBit}
use Rattle.bully_base.specs.NodeSetLaws.{next_bit, is_bit}
use Rattle.bully_base.proofs.NodeSetLemmas.{Has, Contains-from, Has-from, IsFallingBelow-more, with_node-top, without_node-top, below_node-all}

-- What a bit more adds.

pub members-set : (number n : ℕ) → bit_at number n ≡ 1 → members_among number (suc n) ≡ (n + 1) ∷ members_among number n
unfolding members_among
members-set number n e = grind (arith, nat_tests, e)

pub members-clear : (number n : ℕ) → bit_at number n ≡ 0 → members_among number (suc n) ≡ members_among number n
unfolding members_among
members-clear number n e = grind (arith, nat_tests, e)

pub members-first : (number : ℕ) → members_among number 0 ≡ []
unfolding members_among
members-first number = refl

pub members-falling : (number n : ℕ) → IsFallingBelow (n + 1) (members_among number n)
unfolding members_among
members-falling number zero = tt
members-falling number (suc n) = by_mark (is_set number n) (members-falling number n)
  where
    by_mark : (b : Bool) → IsFallingBelow (n + 1) (members_among number n) → IsFallingBelow (suc n + 1) (if b then (n + 1) ∷ members_among number n else members_among number n)
    by_mark true h = (omega arith, omega arith, h)
    by_mark false h = IsFallingBelow-more (n + 1) (suc n + 1) (members_among number n) (omega arith) h

-- numbers with the same bits have the same members
pub members-agree : (number other n : ℕ) → ((i : ℕ) → i < n → bit_at number i ≡ bit_at other i) → members_among number n ≡ members_among other n
unfolding members_among
members-agree number other zero same = refl
members-agree number other (suc n) same = rw (same n (omega arith), members-agree number other n (λ i l. same i (omega arith))) refl

-- where no bit is set from k on, the first k tell all members
pub members-cut : (number k n : ℕ) → k ≤ n → ((i : ℕ) → k ≤ i → bit_at number i ≡ 0) → members_among number n ≡ members_among number k
members-cut number zero zero l none = refl
members-cut number (suc k) zero l none = absurd (omega arith)
members-cut number k (suc n) l none = by_case (grind arith) (members-cut number k n)
  where
    by_case : (k ≡ suc n) ⊎ (k ≤ n) → (k ≤ n → ((i : ℕ) → k ≤ i → bit_at number i ≡ 0) → members_among number n ≡ members_among number k) → members_among number (suc n) ≡ members_among number k
    by_case (inl e) more = ap (members_among number) (sym e)
    by_case (inr h) more = members-clear number n (none n h) ∙ more h none

pub members-none : (n : ℕ) → members_among 0 n ≡ []
members-none n = members-cut 0 0 n (omega arith) (λ i l. bit_at-zero i) ∙ members-first 0

-- To set and to clear a bit.

pub or_same : (number k : ℕ) → bit_at (bit_or number (2 ^ k)) k ≡ 1
or_same number k = omega (arith, bit_at_or number (2 ^ k) k, bit_at-pow_same k)

pub or_other : (number k i : ℕ) → i ≢ k → bit_at (bit_or number (2 ^ k)) i ≡ bit_at number i
or_other number k i apart = omega (arith, bit_at_or number (2 ^ k) i, bit_at-pow_other k i apart)

and_not : (number k i : ℕ) → 2 ^ k < 2 ^ 64 → i < 64 → bit_at (bit_and number (bit_not w64 (2 ^ k))) i ≡ min (bit_at number i) (1 - bit_at (2 ^ k) i)
and_not number k i fits l = bit_at_and number (bit_not w64 (2 ^ k)) i ∙ ap (min (bit_at number i)) (bit_at_not w64 (2 ^ k) i fits l)

pub and_not_same : (number k : ℕ) → 2 ^ k < 2 ^ 64 → k < 64 → bit_at (bit_and number (bit_not w64 (2 ^ k))) k ≡ 0
and_not_same number k fits l = omega (arith, and_not number k k fits l, bit_at-pow_same k)

pub and_not_other : (number k i : ℕ) → 2 ^ k < 2 ^ 64 → i < 64 → i ≢ k → bit_at (bit_and number (bit_not w64 (2 ^ k))) i ≡ bit_at number i
and_not_other number k i fits l apart = omega (arith, and_not number k i fits l, bit_at-pow_other k i apart)

-- a number that has bit k more
pub members-insert : (number new k n : ℕ) → bit_at new k ≡ 1 → ((i : ℕ) → i ≢ k → bit_at new i ≡ bit_at number i) → k < n → members_among new n ≡ with_node (k + 1) (members_among number n)
members-insert number new k zero here other l = absurd (omega arith)
members-insert number new k (suc n) here other l = by_case (members-insert number new k n here other) (grind arith) (is_bit number n)
  where
    rest_same : k ≡ n → members_among new n ≡ members_among number n
    rest_same e = members-agree new number n (λ i l. other i (omega arith))

    by_case : (k < n → members_among new n ≡ with_node (k + 1) (members_among number n)) → (k ≡ n) ⊎ (k < n) → (bit_at number n ≡ 1) ⊎ (bit_at number n ≡ 0) → members_among new (suc n) ≡ with_node (k + 1) (members_among number (suc n))
    by_case more (inl e) (inl b) = rw (e, members-set new n (rw (← e) here), members-set number n b, rest_same e) (grind (arith, nat_tests))
    by_case more (inl e) (inr b) = rw (e, members-set new n (rw (← e) here), members-clear number n b, rest_same e) (sym (with_node-top (n + 1) (members_among number n) (members-falling number n)))
    by_case more (inr h) (inl b) = rw (members-set new n (other n (omega arith) ∙ b), members-set number n b, more h) (grind (arith, nat_tests))
    by_case more (inr h) (inr b) = rw (members-clear new n (other n (omega arith) ∙ b), members-clear number n b) (more h)

-- a number that doesn't have bit k any more
pub members-remove : (number new k n : ℕ) → bit_at new k ≡ 0 → ((i : ℕ) → i < n → i ≢ k → bit_at new i ≡ bit_at number i) → k < n → members_among new n ≡ without_node (k + 1) (members_among number n)
members-remove number new k zero here other l = absurd (omega arith)
members-remove number new k (suc n) here other l = by_case (members-remove number new k n here (λ i l. other i (omega arith))) (grind arith) (is_bit number n)
  where
    rest_same : k ≡ n → members_among new n ≡ members_among number n
    rest_same e = members-agree new number n (λ i l. other i (omega arith) (omega arith))

    top : without_node (n + 1) (members_among number n) ≡ members_among number n
    top = without_node-top (n + 1) (members_among number n) (n + 1) (omega arith) (members-falling number n)

    by_case : (k < n → members_among new n ≡ without_node (k + 1) (members_among number n)) → (k ≡ n) ⊎ (k < n) → (bit_at number n ≡ 1) ⊎ (bit_at number n ≡ 0) → members_among new (suc n) ≡ without_node (k + 1) (members_among number (suc n))
    by_case more (inl e) (inl b) = rw (e, members-clear new n (rw (← e) here), members-set number n b, rest_same e) (grind (arith, nat_tests, top))
    by_case more (inl e) (inr b) = rw (e, members-clear new n (rw (← e) here), members-clear number n b, rest_same e) (sym top)
    by_case more (inr h) (inl b) = rw (members-set new n (other n (omega arith) (omega arith) ∙ b), members-set number n b, more h) (grind (arith, nat_tests))
    by_case more (inr h) (inr b) = rw (members-clear new n (other n (omega arith) (omega arith) ∙ b), members-clear number n b) (more h)

-- the members below a place are those of the bits below it
pub members-below : (number k n : ℕ) → k ≤ n → below_node (k + 1) (members_among number n) ≡ members_among number k
members-below number zero zero l = rw (members-first number) refl
members-below number (suc k) zero l = absurd (omega arith)
members-below number k (suc n) l = by_case (members-below number k n) (grind arith) (is_bit number n)
  where
    by_case : (k ≤ n → below_node (k + 1) (members_among number n) ≡ members_among number k) → (k ≡ suc n) ⊎ (k ≤ n) → (bit_at number n ≡ 1) ⊎ (bit_at number n ≡ 0) → below_node (k + 1) (members_among number (suc n)) ≡ members_among number k
    by_case more (inl e) b = rw (← e) (below_node-all (k + 1) (members_among number k) (k + 1) (omega arith) (members-falling number k))
    by_case more (inr h) (inl b) = rw (members-set number n b) (grind (arith, nat_tests, more h))
    by_case more (inr h) (inr b) = rw (members-clear number n b) (more h)

-- the k lowest bits
pub mod_bit : (number k i : ℕ) → i < k → bit_at (number % 2 ^ k) i ≡ bit_at number i
mod_bit number k i l = sym (ap (λ n. bit_at n i) (sym (shr_split number k)) ∙ bit_at_cat_low (number / 2 ^ k) k (number % 2 ^ k) i l)

pub mod_fits : (number k : ℕ) → number % 2 ^ k < 2 ^ k
mod_fits number k = omega (arith, pow_pos k)

pub members-Has : (number k n : ℕ) → k < n → (bit_at number k ≡ 1) ↔ Has (members_among number n) (k + 1)
members-Has number k zero l = absurd (omega arith)
members-Has number k (suc n) l = by_case (members-Has number k n) (grind arith) (is_bit number n)
  where
    above : (ms : List ℕ) (b : ℕ) → IsFallingBelow b ms → b ≤ k + 1 → Has ms (k + 1) → ⊥
    above [] b f l h = h
    above (m ∷ ms) b f l (inl e) = omega (arith, f.1, e)
    above (m ∷ ms) b f l (inr h) = above ms m f.2 (omega (arith, f.1)) h

    by_case : (k < n → (bit_at number k ≡ 1) ↔ Has (members_among number n) (k + 1)) → (k ≡ n) ⊎ (k < n) → (bit_at number n ≡ 1) ⊎ (bit_at number n ≡ 0) → (bit_at number k ≡ 1) ↔ Has (members_among number (suc n)) (k + 1)
    by_case more (inl e) (inl b) = rw (members-set number n b) ((λ s. inl (omega (arith, e))), (λ h. rw e b))
    by_case more (inl e) (inr b) = rw (members-clear number n b) ((λ s. absurd (omega (arith, s, ap (bit_at number) e, b))), (λ h. absurd (above (members_among number n) (n + 1) (members-falling number n) (omega (arith, e)) h)))
    by_case more (inr h) (inl b) = rw (members-set number n b) ((λ s. inr ((more h).0 s)), back)
      where
        back : (k + 1 ≡ n + 1) ⊎ Has (members_among number n) (k + 1) → bit_at number k ≡ 1
        back (inl e) = absurd (omega (arith, e, h))
        back (inr s) = (more h).1 s
    by_case more (inr h) (inr b) = rw (members-clear number n b) (more h)

-- a number without bits has no members
pub no-members : (number n : ℕ) → ((i : ℕ) → i < n → bit_at number i ≡ 0) → members_among number n ≡ []
no-members number n none = members-agree number 0 n (λ i l. none i l ∙ sym (bit_at-zero i)) ∙ members-none n

-- the highest bit that is set is the head of the members
pub highest-below : (number k n : ℕ) → k < n → bit_at number k ≡ 1 → ((i : ℕ) → k < i → i < n → bit_at number i ≡ 0) → highest_of (members_among number n) ≡ Some (k + 1)
highest-below number k zero l here none = absurd (omega arith)
highest-below number k (suc n) l here none = by_case (highest-below number k n) (grind arith)
  where
    by_case : (k < n → bit_at number k ≡ 1 → ((i : ℕ) → k < i → i < n → bit_at number i ≡ 0) → highest_of (members_among number n) ≡ Some (k + 1)) → (k ≡ n) ⊎ (k < n) → highest_of (members_among number (suc n)) ≡ Some (k + 1)
    by_case more (inl e) = rw (← e, members-set number k here) refl
    by_case more (inr h) = rw (members-clear number n (none n h (omega arith))) (more h here (λ i a b. none i a (omega arith)))

-- the lowest bit that is set is the last of the members
pub lowest-above : (number k n : ℕ) → k < n → bit_at number k ≡ 1 → ((i : ℕ) → i < k → bit_at number i ≡ 0) → lowest_of (members_among number n) ≡ Some (k + 1)
lowest-above number k zero l here none = absurd (omega arith)
lowest-above number k (suc n) l here none = by_case (lowest-above number k n) (grind arith) (is_bit number n)
  where
    longer : (m : ℕ) (ms : List ℕ) (o : ℕ) → lowest_of ms ≡ Some o → lowest_of (m ∷ ms) ≡ Some o
    longer m [] o e = absurd (cc)
    longer m (n ∷ ms) o e = e

    empty : members_among number k ≡ []
    empty = members-agree number 0 k (λ i l. none i l ∙ sym (bit_at-zero i)) ∙ members-none k

    by_case : (k < n → bit_at number k ≡ 1 → ((i : ℕ) → i < k → bit_at number i ≡ 0) → lowest_of (members_among number n) ≡ Some (k + 1)) → (k ≡ n) ⊎ (k < n) → (bit_at number n ≡ 1) ⊎ (bit_at number n ≡ 0) → lowest_of (members_among number (suc n)) ≡ Some (k + 1)
    by_case more (inl e) b = rw (← e, members-set number k here, empty) refl
    by_case more (inr h) (inl b) = rw (members-set number n b) (longer (n + 1) (members_among number n) (k + 1) (more h here none))
    by_case more (inr h) (inr b) = rw (members-clear number n b) (more h here none)

-- as many bits are set as there are members
pub ones-members : (number n : ℕ) → ones (number % 2 ^ n) ≡ length (members_among number n)
ones-members number zero = rw (members-first number) (ap ones (omega arith) ∙ ones-ones 0)
ones-members number (suc n) =
    let split = ap ones (next_bit number n) ∙ ones_cat n (bit_at number n) (number % 2 ^ n) (mod_fits number n) in
    by_bit split (ones-members number n) (is_bit number n)
  where
    by_bit : ones (number % 2 ^ suc n) ≡ ones (bit_at number n) + ones (number % 2 ^ n) → ones (number % 2 ^ n) ≡ length (members_among number n) → (bit_at number n ≡ 1) ⊎ (bit_at number n ≡ 0) → ones (number % 2 ^ suc n) ≡ length (members_among number (suc n))
    by_bit split more (inl b) = rw (members-set number n b) (omega (arith, split, more, ap ones b, ones-ones 1))
    by_bit split more (inr b) = rw (members-clear number n b) (omega (arith, split, more, ap ones b, ones-ones 0))

-- One word.

-- whether a word has a bit that is a member's
pub has-bit : (word k : ℕ) (ms : List ℕ) (node : ℕ) → (bit_at word k ≡ 1) ↔ Has ms node → (bit_and word (2 ^ k) ≢ 0) ↔ Contains ms node
has-bit word k ms node has = rw (and_pow word k) (to, back)
  where
    to : bit_at word k * 2 ^ k ≢ 0 → Contains ms node
    to h = by_bit (is_bit word k)
      where
        by_bit : (bit_at word k ≡ 1) ⊎ (bit_at word k ≡ 0) → Contains ms node
        by_bit (inl b) = Contains-from ms node (has.0 b)
        by_bit (inr b) = absurd (h (ap (λ x. x * 2 ^ k) b ∙ omega arith))

    back : Contains ms node → bit_at word k * 2 ^ k ≢ 0
    back h =
        let one = has.1 (Has-from ms node h) in
        λ z. omega (arith, sym (ap (λ x. x * 2 ^ k) one) ∙ z, pow_pos k)

top-set : (word j : ℕ) → 2 ^ j ≤ word → word < 2 ^ suc j → bit_at word j ≡ 1
top-set word j low high =
    let whole : word ≡ 1 * 2 ^ j + (word - 2 ^ j) = omega arith in
    let quotient : word / 2 ^ j ≡ 1 = ap (λ x. x / 2 ^ j) whole ∙ div-mul-add 1 (2 ^ j) (word - 2 ^ j) (omega (arith, pow-suc 2 j)) in
    ap (λ x. x % 2) quotient

-- the zeros above the highest bit tell which it is
pub highest-bit : (word clear k : ℕ) → word < 2 ^ 64 → word ≢ 0 → clear ≡ count_leading_zeros 64 word → k ≡ 63 - clear → IsHighestBit word k
highest-bit word clear k fits some is e = by_length top.0 (omega (arith, top.1, is, e)) (omega (arith, top.1)) top.2 top.3
  where
    top : (j : ℕ) × (count_leading_zeros 64 word + suc j ≡ 64) × (2 ^ j ≤ word) × (word < 2 ^ suc j)
    top = leading_top 64 word (omega arith) fits

    by_length : (j : ℕ) → k ≡ j → j < 64 → 2 ^ j ≤ word → word < 2 ^ suc j → IsHighestBit word k
    by_length j q l low high = rw q (record { within = l; set = top-set word j low high; above = λ i h. bit_at_above word (suc j) i high (omega arith) })

-- and those below the lowest one
pub lowest-bit : (word k : ℕ) → word < 2 ^ 64 → word ≢ 0 → k ≡ count_trailing_zeros 64 word → IsLowestBit word k
lowest-bit word k fits some is =
    let low = bit_at-trailing_zeros w64 word (omega arith) fits in
    rw is (record { within = low.0; set = low.1; below = low.2 })
