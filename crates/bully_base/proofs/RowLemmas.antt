-- Rows of words, and the members that they stand for: node k + 1 has bit k % 64 of the word at place k / 64.
use Rattle.std.proofs.Common.{◌≡◌, ◌≢◌, ℕ, zero, suc, ◌+◌, ◌<◌, ◌≤◌, List, [], ◌∷◌, length, take, replicate, Fits, arith, refl, sym, ap, mod-eq_of_lt, ◌∙◌, ◌⊎◌, inl, inr, ◌-◌, ◌*◌, ◌/◌, ◌%◌, ◌^◌, ◌↔◌, Contains, Some, slice_index_or, slice_set, get_or-set_same, get_or-set_other, get_or-take, length-set}
use Rattle.std.specs.Int.{bit_at, bit_not, w64}
use Rattle.std.specs.Int.RustNames.{bit_and, bit_or}
use Rattle.std.specs.Int.Count.{ones, ones-ones}
use Rattle.std.proofs.Math.Nat.{pow-le-pow_right}
use Rattle.std.proofs.lemmas.Nat.{pow_pos, pow_below, or_lt, and_le_l, and_mask, ones_cat, ones-le}
use Rattle.std.proofs.lemmas.Nat.Bits.{bit_at_above, bit_at_cat_low, bit_at_cat_high, bit_at-zero}
use Rattle.bully_base.specs.declared.TheConstants.{NODES_MAX}
use Rattle.bully_base.specs.declared.node_set.TheConstants.{WORDS}
use Rattle.bully_base.specs.Setup.{IsNodeNumber}
use Rattle.bully_base.specs.NodeSet.{members_among, members_of, number_of, AreWords, IsHighestBit, IsLowestBit, with_node, without_node, below_node, highest_of, lowest_of}
use Rattle.bully_base.specs.NodeSetLaws.{number_of-lt}
use Rattle.bully_base.proofs.WordLemmas.{members-none, members-agree, members-cut, members-insert, members-remove, members-below, members-Has, no-members, highest-below, lowest-above, ones-members, or_same, or_other, and_not_same, and_not_other, mod_bit, mod_fits, has-bit}

pub order : (a b : ℕ) → (a ≡ b) ⊎ ((a < b) ⊎ (b < a))
order a b = grind arith

-- Words of a row.

-- what the type of a slice says
pub AreWords-from : (ws : List ℕ) → ((q : ℕ) → Fits w64 (slice_index_or ws q 0)) → AreWords ws
AreWords-from [] fits = tt
AreWords-from (w ∷ ws) fits = ((fits 0).fits, AreWords-from ws (λ q. fits (suc q)))

pub word-fits : (ws : List ℕ) (q : ℕ) → AreWords ws → slice_index_or ws q 0 < 2 ^ 64
word-fits [] q h = pow_pos 64
word-fits (w ∷ ws) zero h = h.0
word-fits (w ∷ ws) (suc q) h = word-fits ws q h.1

AreWords-set : (ws : List ℕ) (q x : ℕ) → AreWords ws → x < 2 ^ 64 → AreWords (slice_set ws q x)
AreWords-set [] q x h l = tt
AreWords-set (w ∷ ws) zero x h l = (l, h.1)
AreWords-set (w ∷ ws) (suc q) x h l = (h.0, AreWords-set ws q x h.1 l)

AreWords-take : (q : ℕ) (ws : List ℕ) → AreWords ws → AreWords (take q ws)
AreWords-take zero ws h = tt
AreWords-take (suc q) [] h = tt
AreWords-take (suc q) (w ∷ ws) h = (h.0, AreWords-take q ws h.1)

pub AreWords-zeros : (n : ℕ) → AreWords (replicate n 0)
AreWords-zeros zero = tt
AreWords-zeros (suc n) = (pow_pos 64, AreWords-zeros n)

number_of-zeros : (n : ℕ) → number_of (replicate n 0) ≡ 0
unfolding number_of
number_of-zeros zero = refl
number_of-zeros (suc n) = omega (arith, number_of-zeros n)

pub members_of-zeros : (n : ℕ) → members_of (replicate n 0) ≡ []
members_of-zeros n = ap (λ (k : ℕ). members_among k NODES_MAX) (number_of-zeros n) ∙ members-none NODES_MAX

take-past : (q : ℕ) (ws : List ℕ) (p : ℕ) → q ≤ p → slice_index_or (take q ws) p 0 ≡ 0
take-past zero ws p l = refl
take-past (suc q) [] p l = refl
take-past (suc q) (w ∷ ws) zero l = absurd (omega arith)
take-past (suc q) (w ∷ ws) (suc p) l = take-past q ws p (omega arith)

pub row-past : (ws : List ℕ) (p : ℕ) → length ws ≤ p → slice_index_or ws p 0 ≡ 0
row-past [] p l = refl
row-past (w ∷ ws) zero l = absurd (omega arith)
row-past (w ∷ ws) (suc p) l = row-past ws p (omega arith)

-- behind the row there is no bit either
pub row-zeros : (ws : List ℕ) (n : ℕ) → length ws ≤ n → ((p : ℕ) → p < n → slice_index_or ws p 0 ≡ 0) → (p : ℕ) → slice_index_or ws p 0 ≡ 0
row-zeros ws n size none p = by_order (order p n)
  where
    by_order : (p ≡ n) ⊎ ((p < n) ⊎ (n < p)) → slice_index_or ws p 0 ≡ 0
    by_order (inl e) = row-past ws p (omega arith)
    by_order (inr (inl less)) = none p less
    by_order (inr (inr more)) = row-past ws p (omega arith)

-- The bits of a row are those of its words.

row-bit : (ws : List ℕ) (q r : ℕ) → AreWords ws → r < 64 → bit_at (number_of ws) (q * 64 + r) ≡ bit_at (slice_index_or ws q 0) r
unfolding number_of
row-bit [] q r h l = bit_at-zero (q * 64 + r) ∙ sym (bit_at-zero r)
row-bit (w ∷ ws) zero r h l =
    let e : 0 * 64 + r ≡ r = omega arith in
    ap (λ (i : ℕ). bit_at (number_of ws * 2 ^ 64 + w) i) e ∙ bit_at_cat_low (number_of ws) 64 w r l
row-bit (w ∷ ws) (suc q) r h l =
    let e : suc q * 64 + r - 64 ≡ q * 64 + r = omega arith in
    bit_at_cat_high (number_of ws) 64 w (suc q * 64 + r) h.0 (omega arith) ∙ (ap (λ (i : ℕ). bit_at (number_of ws) i) e ∙ row-bit ws q r h.1 l)

row-at : (ws : List ℕ) (i : ℕ) → AreWords ws → bit_at (number_of ws) i ≡ bit_at (slice_index_or ws (i / 64) 0) (i % 64)
row-at ws i h =
    let e : i ≡ i / 64 * 64 + i % 64 = omega arith in
    ap (λ (k : ℕ). bit_at (number_of ws) k) e ∙ row-bit ws (i / 64) (i % 64) h (omega arith)

-- the same where the place is known
row-in : (ws : List ℕ) (i q : ℕ) → AreWords ws → i / 64 ≡ q → bit_at (number_of ws) i ≡ bit_at (slice_index_or ws q 0) (i % 64)
row-in ws i q h e = row-at ws i h ∙ ap (λ (p : ℕ). bit_at (slice_index_or ws p 0) (i % 64)) e

empty-bit : (ws : List ℕ) (i : ℕ) → AreWords ws → slice_index_or ws (i / 64) 0 ≡ 0 → bit_at (number_of ws) i ≡ 0
empty-bit ws i h e = row-at ws i h ∙ (ap (λ (w : ℕ). bit_at w (i % 64)) e ∙ bit_at-zero (i % 64))

-- A row in which one word is another.

set-same : (ws : List ℕ) (k x : ℕ) → AreWords ws → x < 2 ^ 64 → k / 64 < length ws → bit_at (number_of (slice_set ws (k / 64) x)) k ≡ bit_at x (k % 64)
set-same ws k x h fits l = row-at (slice_set ws (k / 64) x) k (AreWords-set ws (k / 64) x h fits) ∙ ap (λ (w : ℕ). bit_at w (k % 64)) (get_or-set_same ws (k / 64) x 0 l)

set-other : (ws : List ℕ) (k x i : ℕ) → AreWords ws → x < 2 ^ 64 → k / 64 < length ws → ((j : ℕ) → j < 64 → j ≢ k % 64 → bit_at x j ≡ bit_at (slice_index_or ws (k / 64) 0) j) → i ≢ k → bit_at (number_of (slice_set ws (k / 64) x)) i ≡ bit_at (number_of ws) i
set-other ws k x i h fits l same ne = by_place (order (i / 64) (k / 64))
  where
    new : AreWords (slice_set ws (k / 64) x)
    new = AreWords-set ws (k / 64) x h fits

    elsewhere : i / 64 ≢ k / 64 → bit_at (number_of (slice_set ws (k / 64) x)) i ≡ bit_at (number_of ws) i
    elsewhere apart = row-at (slice_set ws (k / 64) x) i new ∙ (ap (λ (w : ℕ). bit_at w (i % 64)) (get_or-set_other ws (k / 64) (i / 64) x 0 apart) ∙ sym (row-at ws i h))

    by_place : (i / 64 ≡ k / 64) ⊎ ((i / 64 < k / 64) ⊎ (k / 64 < i / 64)) → bit_at (number_of (slice_set ws (k / 64) x)) i ≡ bit_at (number_of ws) i
    by_place (inl e) =
        row-in (slice_set ws (k / 64) x) i (k / 64) new e ∙
        (ap (λ (w : ℕ). bit_at w (i % 64)) (get_or-set_same ws (k / 64) x 0 l) ∙ (same (i % 64) (omega arith) (λ z. ne (omega (arith, e, z))) ∙ sym (row-in ws i (k / 64) h e)))
    by_place (inr (inl less)) = elsewhere (λ z. omega (arith, z, less))
    by_place (inr (inr more)) = elsewhere (λ z. omega (arith, z, more))

set-words : (ws : List ℕ) (q x : ℕ) → (length ws ≡ WORDS) × AreWords ws → x < 2 ^ 64 → (length (slice_set ws q x) ≡ WORDS) × AreWords (slice_set ws q x)
set-words ws q x h fits = (length-set ws q x ∙ h.0, AreWords-set ws q x h.1 fits)

bit-fits : (k : ℕ) → 2 ^ (k % 64) < 2 ^ 64
bit-fits k = pow_below (k % 64) 64 (omega arith)

or-fits : (word k : ℕ) → word < 2 ^ 64 → bit_or word (2 ^ (k % 64)) < 2 ^ 64
or-fits word k l = or_lt 64 word (2 ^ (k % 64)) l (bit-fits k)

and-fits : (word mask : ℕ) → word < 2 ^ 64 → bit_and word mask < 2 ^ 64
and-fits word mask l = omega (arith, and_le_l word mask)

insert-at : (ws : List ℕ) (k : ℕ) → (length ws ≡ WORDS) × AreWords ws → k < NODES_MAX → members_of (slice_set ws (k / 64) (bit_or (slice_index_or ws (k / 64) 0) (2 ^ (k % 64)))) ≡ with_node (k + 1) (members_of ws)
insert-at ws k h l = by_word (slice_index_or ws (k / 64) 0) refl
  where
    by_word : (w : ℕ) → w ≡ slice_index_or ws (k / 64) 0 → members_of (slice_set ws (k / 64) (bit_or w (2 ^ (k % 64)))) ≡ with_node (k + 1) (members_of ws)
    by_word w e =
        let within : k / 64 < length ws = omega (arith, h.0) in
        let fits : bit_or w (2 ^ (k % 64)) < 2 ^ 64 = or-fits w k (rw e (word-fits ws (k / 64) h.1)) in
        let other : (j : ℕ) → j < 64 → j ≢ k % 64 → bit_at (bit_or w (2 ^ (k % 64))) j ≡ bit_at (slice_index_or ws (k / 64) 0) j = λ j b ne. or_other w (k % 64) j ne ∙ ap (λ (x : ℕ). bit_at x j) e in
        members-insert (number_of ws) (number_of (slice_set ws (k / 64) (bit_or w (2 ^ (k % 64))))) k NODES_MAX
        (set-same ws k (bit_or w (2 ^ (k % 64))) h.1 fits within ∙ or_same w (k % 64))
        (λ i ne. set-other ws k (bit_or w (2 ^ (k % 64))) i h.1 fits within other ne)
        l

remove-at : (ws : List ℕ) (k : ℕ) → (length ws ≡ WORDS) × AreWords ws → k < NODES_MAX → members_of (slice_set ws (k / 64) (bit_and (slice_index_or ws (k / 64) 0) (bit_not w64 (2 ^ (k % 64))))) ≡ without_node (k + 1) (members_of ws)
remove-at ws k h l = by_word (slice_index_or ws (k / 64) 0) refl
  where
    by_word : (w : ℕ) → w ≡ slice_index_or ws (k / 64) 0 → members_of (slice_set ws (k / 64) (bit_and w (bit_not w64 (2 ^ (k % 64))))) ≡ without_node (k + 1) (members_of ws)
    by_word w e =
        let within : k / 64 < length ws = omega (arith, h.0) in
        let fits : bit_and w (bit_not w64 (2 ^ (k % 64))) < 2 ^ 64 = and-fits w (bit_not w64 (2 ^ (k % 64))) (rw e (word-fits ws (k / 64) h.1)) in
        let other : (j : ℕ) → j < 64 → j ≢ k % 64 → bit_at (bit_and w (bit_not w64 (2 ^ (k % 64)))) j ≡ bit_at (slice_index_or ws (k / 64) 0) j = λ j b ne. and_not_other w (k % 64) j (bit-fits k) b ne ∙ ap (λ (x : ℕ). bit_at x j) e in
        members-remove (number_of ws) (number_of (slice_set ws (k / 64) (bit_and w (bit_not w64 (2 ^ (k % 64)))))) k NODES_MAX
        (set-same ws k (bit_and w (bit_not w64 (2 ^ (k % 64)))) h.1 fits within ∙ and_not_same w (k % 64) (bit-fits k) (omega arith))
        (λ i b ne. set-other ws k (bit_and w (bit_not w64 (2 ^ (k % 64)))) i h.1 fits within other ne)
        l

has-at : (ws : List ℕ) (k : ℕ) → AreWords ws → k < NODES_MAX → (bit_and (slice_index_or ws (k / 64) 0) (2 ^ (k % 64)) ≢ 0) ↔ Contains (members_of ws) (k + 1)
has-at ws k h l =
    let has = members-Has (number_of ws) k NODES_MAX l in
    has-bit (slice_index_or ws (k / 64) 0) (k % 64) (members_of ws) (k + 1) ((λ s. has.0 (row-at ws k h ∙ s)), (λ m. sym (row-at ws k h) ∙ has.1 m))

-- The steps of the methods.

same-node : (node : ℕ) → IsNodeNumber node → node - 1 + 1 ≡ node
same-node node within = omega (arith, within.0)

node-within : (node : ℕ) → IsNodeNumber node → node - 1 < NODES_MAX
node-within node within = omega (arith, within.0, within.1)

pub insert-words : (ws : List ℕ) (node place bit : ℕ) → (length ws ≡ WORDS) × AreWords ws → bit ≡ 2 ^ ((node - 1) % 64) → (length (slice_set ws place (bit_or (slice_index_or ws place 0) bit)) ≡ WORDS) × AreWords (slice_set ws place (bit_or (slice_index_or ws place 0) bit))
insert-words ws node place bit h is = set-words ws place (bit_or (slice_index_or ws place 0) bit) h (rw is (or-fits (slice_index_or ws place 0) (node - 1) (word-fits ws place h.1)))

pub remove-words : (ws : List ℕ) (place mask : ℕ) → (length ws ≡ WORDS) × AreWords ws → (length (slice_set ws place (bit_and (slice_index_or ws place 0) mask)) ≡ WORDS) × AreWords (slice_set ws place (bit_and (slice_index_or ws place 0) mask))
remove-words ws place mask h = set-words ws place (bit_and (slice_index_or ws place 0) mask) h (and-fits (slice_index_or ws place 0) mask (word-fits ws place h.1))

pub insert-step : (ws : List ℕ) (node place bit : ℕ) → (length ws ≡ WORDS) × AreWords ws → IsNodeNumber node → place ≡ (node - 1) / 64 → bit ≡ 2 ^ ((node - 1) % 64) → members_of (slice_set ws place (bit_or (slice_index_or ws place 0) bit)) ≡ with_node node (members_of ws)
insert-step ws node place bit h within at is = rw (at, is) (insert-at ws (node - 1) h (node-within node within) ∙ ap (λ (k : ℕ). with_node k (members_of ws)) (same-node node within))

pub remove-step : (ws : List ℕ) (node place bit : ℕ) → (length ws ≡ WORDS) × AreWords ws → IsNodeNumber node → place ≡ (node - 1) / 64 → bit ≡ 2 ^ ((node - 1) % 64) → members_of (slice_set ws place (bit_and (slice_index_or ws place 0) (bit_not w64 bit))) ≡ without_node node (members_of ws)
remove-step ws node place bit h within at is = rw (at, is) (remove-at ws (node - 1) h (node-within node within) ∙ ap (λ (k : ℕ). without_node k (members_of ws)) (same-node node within))

has-node : (word bit k node : ℕ) (ms : List ℕ) → k ≡ node → (bit_and word bit ≢ 0) ↔ Contains ms k → (bit_and word bit ≢ 0) ↔ Contains ms node
has-node word bit k node ms e h = rw (← e) h

pub has-step : (ws : List ℕ) (node place bit : ℕ) → AreWords ws → IsNodeNumber node → place ≡ (node - 1) / 64 → bit ≡ 2 ^ ((node - 1) % 64) → (bit_and (slice_index_or ws place 0) bit ≢ 0) ↔ Contains (members_of ws) node
has-step ws node place bit h within at is = rw (at, is) (has-node (slice_index_or ws ((node - 1) / 64) 0) (2 ^ ((node - 1) % 64)) (node - 1 + 1) node (members_of ws) (same-node node within) (has-at ws (node - 1) h (node-within node within)))

-- the highest bit of the last word that has one
pub highest-step : (ws : List ℕ) (place bit : ℕ) → length ws ≤ WORDS → AreWords ws → place < length ws → IsHighestBit (slice_index_or ws place 0) bit → ((p : ℕ) → place < p → slice_index_or ws p 0 ≡ 0) → highest_of (members_of ws) ≡ Some (place * 64 + bit + 1)
highest-step ws place bit size h l top none = highest-below (number_of ws) (place * 64 + bit) NODES_MAX (omega (arith, top.within)) (row-bit ws place bit h top.within ∙ top.set) (λ i a b. by_place i a (order (i / 64) place))
  where
    by_place : (i : ℕ) → place * 64 + bit < i → (i / 64 ≡ place) ⊎ ((i / 64 < place) ⊎ (place < i / 64)) → bit_at (number_of ws) i ≡ 0
    by_place i a (inl e) = row-in ws i place h e ∙ top.above (i % 64) (omega (arith, a, e))
    by_place i a (inr (inl less)) = absurd (omega (arith, a, less))
    by_place i a (inr (inr more)) = empty-bit ws i h (none (i / 64) more)

-- the lowest bit of the first word that has one
pub lowest-step : (ws : List ℕ) (place bit : ℕ) → length ws ≤ WORDS → AreWords ws → place < length ws → IsLowestBit (slice_index_or ws place 0) bit → ((p : ℕ) → p < place → slice_index_or ws p 0 ≡ 0) → lowest_of (members_of ws) ≡ Some (place * 64 + bit + 1)
lowest-step ws place bit size h l low none = lowest-above (number_of ws) (place * 64 + bit) NODES_MAX (omega (arith, low.within)) (row-bit ws place bit h low.within ∙ low.set) (λ i a. by_place i a (order (i / 64) place))
  where
    by_place : (i : ℕ) → i < place * 64 + bit → (i / 64 ≡ place) ⊎ ((i / 64 < place) ⊎ (place < i / 64)) → bit_at (number_of ws) i ≡ 0
    by_place i a (inl e) = row-in ws i place h e ∙ low.below (i % 64) (omega (arith, a, e))
    by_place i a (inr (inl less)) = empty-bit ws i h (none (i / 64) less)
    by_place i a (inr (inr more)) = absurd (omega (arith, a, more, low.within))

-- a row of words without bits has no members
pub empty-step : (ws : List ℕ) → AreWords ws → ((p : ℕ) → slice_index_or ws p 0 ≡ 0) → members_of ws ≡ []
empty-step ws h none = no-members (number_of ws) NODES_MAX (λ i l. empty-bit ws i h (none (i / 64)))

below-number : (ws : List ℕ) (node : ℕ) → IsNodeNumber node → below_node node (members_of ws) ≡ members_among (number_of ws) (node - 1)
below-number ws node within = ap (λ (k : ℕ). below_node k (members_of ws)) (sym (same-node node within)) ∙ members-below (number_of ws) (node - 1) NODES_MAX (omega (arith, within.0, within.1))

-- the members below a node, where its own word has one
below-here : (ws : List ℕ) (k j : ℕ) → AreWords ws → IsHighestBit (slice_index_or ws (k / 64) 0 % 2 ^ (k % 64)) j → highest_of (members_among (number_of ws) k) ≡ Some (k / 64 * 64 + j + 1)
below-here ws k j h top = highest-below (number_of ws) (k / 64 * 64 + j) k (omega (arith, low)) (row-bit ws (k / 64) j h top.within ∙ (sym (mod_bit (slice_index_or ws (k / 64) 0) (k % 64) j low) ∙ top.set)) above
  where
    low : j < k % 64
    low = by_order (grind arith)
      where
        by_order : (j < k % 64) ⊎ (k % 64 ≤ j) → j < k % 64
        by_order (inl l) = l
        by_order (inr l) = absurd (omega (arith, top.set, bit_at_above (slice_index_or ws (k / 64) 0 % 2 ^ (k % 64)) (k % 64) j (mod_fits (slice_index_or ws (k / 64) 0) (k % 64)) l))

    above : (i : ℕ) → k / 64 * 64 + j < i → i < k → bit_at (number_of ws) i ≡ 0
    above i a b =
        let e : i / 64 ≡ k / 64 = omega arith in
        row-in ws i (k / 64) h e ∙ (sym (mod_bit (slice_index_or ws (k / 64) 0) (k % 64) (i % 64) (omega (arith, e))) ∙ top.above (i % 64) (omega (arith, e)))

-- and where it has none
below-front : (ws : List ℕ) (k : ℕ) → AreWords ws → k < NODES_MAX → slice_index_or ws (k / 64) 0 % 2 ^ (k % 64) ≡ 0 → members_among (number_of ws) k ≡ members_of (take (k / 64) ws)
below-front ws k h l none = members-agree (number_of ws) (number_of (take (k / 64) ws)) k (λ i b. by_place i b (order (i / 64) (k / 64))) ∙ sym (members-cut (number_of (take (k / 64) ws)) k NODES_MAX (omega arith) (λ i b. past i (omega (arith, b))))
  where
    front : AreWords (take (k / 64) ws)
    front = AreWords-take (k / 64) ws h

    past : (i : ℕ) → k / 64 ≤ i / 64 → bit_at (number_of (take (k / 64) ws)) i ≡ 0
    past i b = empty-bit (take (k / 64) ws) i front (take-past (k / 64) ws (i / 64) b)

    by_place : (i : ℕ) → i < k → (i / 64 ≡ k / 64) ⊎ ((i / 64 < k / 64) ⊎ (k / 64 < i / 64)) → bit_at (number_of ws) i ≡ bit_at (number_of (take (k / 64) ws)) i
    by_place i b (inl e) =
        row-in ws i (k / 64) h e ∙
        (sym (mod_bit (slice_index_or ws (k / 64) 0) (k % 64) (i % 64) (omega (arith, b, e))) ∙ (ap (λ (w : ℕ). bit_at w (i % 64)) none ∙ (bit_at-zero (i % 64) ∙ sym (past i (omega (arith, e))))))
    by_place i b (inr (inl less)) = row-at ws i h ∙ sym (row-at (take (k / 64) ws) i front ∙ ap (λ (w : ℕ). bit_at w (i % 64)) (get_or-take (k / 64) ws (i / 64) 0 less))
    by_place i b (inr (inr more)) = absurd (omega (arith, b, more))

masked : (ws : List ℕ) (node place bit part : ℕ) → place ≡ (node - 1) / 64 → bit ≡ 2 ^ ((node - 1) % 64) → part ≡ bit_and (slice_index_or ws place 0) (bit - 1) → part ≡ slice_index_or ws ((node - 1) / 64) 0 % 2 ^ ((node - 1) % 64)
masked ws node place bit part at is e = e ∙ rw (at, is) (and_mask (slice_index_or ws ((node - 1) / 64) 0) ((node - 1) % 64))

pub below-part : (ws : List ℕ) (node place bit part j : ℕ) → AreWords ws → IsNodeNumber node → place ≡ (node - 1) / 64 → bit ≡ 2 ^ ((node - 1) % 64) → part ≡ bit_and (slice_index_or ws place 0) (bit - 1) → IsHighestBit part j → Some (place * 64 + j + 1) ≡ highest_of (below_node node (members_of ws))
below-part ws node place bit part j h within at is e top =
    let mask = masked ws node place bit part at is e in
    rw (below-number ws node within, at) (sym (below-here ws (node - 1) j h (rw mask at top)))

pub below-rest : (ws : List ℕ) (node place bit part : ℕ) → AreWords ws → IsNodeNumber node → place ≡ (node - 1) / 64 → bit ≡ 2 ^ ((node - 1) % 64) → part ≡ bit_and (slice_index_or ws place 0) (bit - 1) → part ≡ 0 → highest_of (members_of (take place ws)) ≡ highest_of (below_node node (members_of ws))
below-rest ws node place bit part h within at is e none =
    let mask = masked ws node place bit part at is e in
    rw (below-number ws node within, at) (ap highest_of (sym (below-front ws (node - 1) h (node-within node within) (sym mask ∙ none))))

-- How many members there are.

ones-front : (ws : List ℕ) (i : ℕ) → AreWords ws → i < length ws → ones (number_of (take (suc i) ws)) ≡ ones (number_of (take i ws)) + ones (slice_index_or ws i 0)
unfolding number_of
ones-front [] i h l = absurd (omega arith)
ones-front (w ∷ ws) zero h l = ones_cat 64 0 w h.0
ones-front (w ∷ ws) (suc i) h l = omega (arith, ones-front ws i h.1 (omega arith), ones_cat 64 (number_of (take (suc i) ws)) w h.0, ones_cat 64 (number_of (take i ws)) w h.0)

-- one word more
pub ones-more : (ws : List ℕ) (i : ℕ) → AreWords ws → i < length ws → ones (number_of (take (i + 1) ws)) ≡ ones (number_of (take i ws)) + ones (slice_index_or ws i 0)
ones-more ws i h l =
    let e : i + 1 ≡ suc i = omega arith in
    ap (λ (k : ℕ). ones (number_of (take k ws))) e ∙ ones-front ws i h l

pub ones-word : (ws : List ℕ) (i : ℕ) → AreWords ws → ones (slice_index_or ws i 0) ≤ 64
ones-word ws i h = ones-le 64 (slice_index_or ws i 0) (word-fits ws i h)

-- no word, no members
pub ones-none : 0 ≡ ones (number_of [])
unfolding number_of
ones-none = sym (ones-ones 0)

pow-le : (m n : ℕ) → m ≤ n → 2 ^ m ≤ 2 ^ n
pow-le m n l = pow-le-pow_right (omega arith) l

below-bound : (a b c : ℕ) → a < b → b ≤ c → a < c
below-bound a b c l m = omega arith

pub count-step : (ws : List ℕ) → length ws ≤ WORDS → AreWords ws → ones (number_of ws) ≡ length (members_of ws)
count-step ws size h =
    let room : 2 ^ (64 * length ws) ≤ 2 ^ NODES_MAX = pow-le (64 * length ws) NODES_MAX (omega arith) in
    let fits : number_of ws < 2 ^ NODES_MAX = below-bound (number_of ws) (2 ^ (64 * length ws)) (2 ^ NODES_MAX) (number_of-lt ws h) room in
    ap ones (sym (mod-eq_of_lt fits)) ∙ ones-members (number_of ws) NODES_MAX
