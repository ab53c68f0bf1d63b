-- How many words of a row are used: up to the last that isn't 0.
use Rattle.std.proofs.Common.{◌≡◌, ◌≢◌, ◌⊎◌, inl, inr, ◌∙◌, ℕ, zero, suc, ◌+◌, ◌<◌, ◌≤◌, Bool, true, false, List, [], ◌∷◌, length, replicate, take, arith, refl, sym, ap, ◌-◌, ◌*◌, ◌%◌, ◌^◌, ◌==◌, ◌&&◌, if◌then◌else◌, slice_index_or, slice_set, bytes_eq, get_or-set_same, get_or-set_other}
use Rattle.std.specs.Bool.{Decides}
use Rattle.std.specs.Int.{bit_at}
use Rattle.std.specs.Int.RustNames.{bit_and, bit_or}
use Rattle.std.proofs.lemmas.Bool.Decides.{nat_tests, Decides-eqb}
use Rattle.std.proofs.lemmas.Nat.{and_le_l}
use Rattle.std.proofs.lemmas.Nat.Bits.{bit_at-zero}
use Rattle.std.proofs.lemmas.Slice.Eq.{bytes_eq-Decides}
use Rattle.bully_base.specs.declared.TheConstants.{NODES_MAX}
use Rattle.bully_base.specs.declared.node_set.TheConstants.{WORDS}
use Rattle.bully_base.specs.NodeSet.{members_among, members_of, number_of, words_among, word_of}
use Rattle.bully_base.specs.UsedWords.{used_of, used_words, IsRow}
use Rattle.bully_base.specs.NodeSetLaws.{words_of-members_of}
use Rattle.bully_base.proofs.RowLemmas.{insert-words, order, remove-words, row-past}
use Rattle.bully_base.proofs.WordLemmas.{or_same}

-- One word more at the front.

abbrev used_with : ℕ → ℕ → ℕ
used_with w used = if (used == 0) && (w == 0) then 0 else used + 1

with-tail : (w used p : ℕ) → used_with w used ≤ suc p → used ≤ p
with-tail w used p l = grind (arith, nat_tests, l)

with-head : (w used : ℕ) → used_with w used ≤ 0 → w ≡ 0
with-head w used l = grind (arith, nat_tests, l)

with-none : (w used : ℕ) → used ≤ 0 → w ≡ 0 → used_with w used ≤ 0
with-none w used l e = grind (arith, nat_tests, l, e)

with-more : (w used p : ℕ) → used ≤ p → used_with w used ≤ suc p
with-more w used p l = grind (arith, nat_tests, l)

with-one : (w used : ℕ) → 1 ≡ used_with w used → w ≢ 0
with-one w used e z = absurd (grind (arith, nat_tests, e, z))

with-others : (w used k : ℕ) → suc k + 1 ≡ used_with w used → k + 1 ≡ used
with-others w used k e = grind (arith, nat_tests, e)

-- Which words are used.

pub zeros-behind : (ws : List ℕ) (p : ℕ) → used_of ws ≤ p → slice_index_or ws p 0 ≡ 0
unfolding used_of
zeros-behind [] p l = refl
zeros-behind (w ∷ ws) zero l = with-head w (used_of ws) l
zeros-behind (w ∷ ws) (suc p) l = zeros-behind ws p (with-tail w (used_of ws) p l)

used-least : (ws : List ℕ) (used : ℕ) → ((p : ℕ) → used ≤ p → slice_index_or ws p 0 ≡ 0) → used_of ws ≤ used
unfolding used_of
used-least [] used none = omega arith
used-least (w ∷ ws) zero none = with-none w (used_of ws) (used-least ws zero (λ p l. none (suc p) (omega arith))) (none zero (omega arith))
used-least (w ∷ ws) (suc used) none = with-more w (used_of ws) used (used-least ws used (λ p l. none (suc p) (omega arith)))

pub used-last : (ws : List ℕ) (k : ℕ) → k + 1 ≡ used_of ws → slice_index_or ws k 0 ≢ 0
unfolding used_of
used-last [] k e = absurd (omega (arith, e))
used-last (w ∷ ws) zero e = with-one w (used_of ws) e
used-last (w ∷ ws) (suc k) e = used-last ws k (with-others w (used_of ws) k e)

-- it is where only zeros are behind, and no zero is the last
pub used-from : (ws : List ℕ) (used : ℕ) → ((p : ℕ) → used ≤ p → slice_index_or ws p 0 ≡ 0) → ((k : ℕ) → k + 1 ≡ used → slice_index_or ws k 0 ≢ 0) → used ≡ used_of ws
used-from ws used none last = by_order (order used (used_of ws))
  where
    by_order : (used ≡ used_of ws) ⊎ ((used < used_of ws) ⊎ (used_of ws < used)) → used ≡ used_of ws
    by_order (inl e) = e
    by_order (inr (inl less)) = absurd (omega (arith, less, used-least ws used none))
    by_order (inr (inr more)) = absurd (last (used - 1) (omega (arith, more)) (zeros-behind ws (used - 1) (omega (arith, more))))

-- the last word that isn't 0 is known, or there is none
pub last-used : (ws : List ℕ) (place used : ℕ) → used ≡ place + 1 → slice_index_or ws place 0 ≢ 0 → ((p : ℕ) → place < p → slice_index_or ws p 0 ≡ 0) → used ≡ used_of ws
last-used ws place used is some none = used-from ws used (λ p l. none p (omega (arith, is, l))) last
  where
    last : (k : ℕ) → k + 1 ≡ used → slice_index_or ws k 0 ≢ 0
    last k e z = some (ap (λ (i : ℕ). slice_index_or ws i 0) (same k e) ∙ z)
      where
        same : (k : ℕ) → k + 1 ≡ used → place ≡ k
        same k e = omega (arith, e, is)

pub none-used : (ws : List ℕ) → ((p : ℕ) → slice_index_or ws p 0 ≡ 0) → 0 ≡ used_of ws
none-used ws none = omega (arith, used-least ws 0 (λ p l. none p))

pub used-within : (ws : List ℕ) → used_of ws ≤ length ws
used-within ws = used-least ws (length ws) (row-past ws)

pub used-fits : (ws : List ℕ) (used : ℕ) → IsRow ws used → used ≤ WORDS
used-fits ws used h = omega (arith, used-within ws, h.0, h.2)

-- The used words alone.

number-none : (ws : List ℕ) → ((p : ℕ) → slice_index_or ws p 0 ≡ 0) → 0 ≡ number_of ws
unfolding number_of
number-none [] none = refl
number-none (w ∷ ws) none =
    let here : w ≡ 0 = none 0 in
    omega (arith, here, number-none ws (λ p. none (suc p)))

number-take : (used : ℕ) (ws : List ℕ) → ((p : ℕ) → used ≤ p → slice_index_or ws p 0 ≡ 0) → number_of (take used ws) ≡ number_of ws
unfolding number_of
number-take zero ws none = number-none ws (λ p. none p (omega arith))
number-take (suc used) [] none = refl
number-take (suc used) (w ∷ ws) none = ap (λ (n : ℕ). n * 2 ^ 64 + w) (number-take used ws (λ p l. none (suc p) (omega arith)))

used-take : (used : ℕ) (ws : List ℕ) → ((p : ℕ) → used ≤ p → slice_index_or ws p 0 ≡ 0) → used_of (take used ws) ≡ used_of ws
unfolding used_of
used-take zero ws none = omega (arith, used-least ws zero none)
used-take (suc used) [] none = refl
used-take (suc used) (w ∷ ws) none = ap (used_with w) (used-take used ws (λ p l. none (suc p) (omega arith)))

-- they have all members
pub row-members : (ws ms : List ℕ) (used : ℕ) → IsRow ws used → members_of ws ≡ ms → members_of (take used ws) ≡ ms
row-members ws ms used h e =
    ap (λ (n : ℕ). members_among n NODES_MAX) (number-take used ws (λ p l. zeros-behind ws p (omega (arith, l, h.2)))) ∙ e

pub row-used : (ws ms : List ℕ) (used : ℕ) → IsRow ws used → members_of ws ≡ ms → take used ws ≡ used_words ms
row-used ws ms used h e =
    ap (λ (k : ℕ). take k ws) h.2 ∙ (ap (λ (xs : List ℕ). take (used_of xs) xs) (sym (words_of-members_of ws h.0 h.1)) ∙ ap used_words e)

-- A row in which one word is another.

-- one that isn't 0
set-more : (ws : List ℕ) (used q x next : ℕ) → used ≡ used_of ws → q < length ws → x ≢ 0 → used ≤ next → q + 1 ≤ next → (next ≡ used) ⊎ (next ≡ q + 1) → next ≡ used_of (slice_set ws q x)
set-more ws used q x next is within nz low here one = used-from (slice_set ws q x) next none last
  where
    none : (p : ℕ) → next ≤ p → slice_index_or (slice_set ws q x) p 0 ≡ 0
    none p l = get_or-set_other ws q p x 0 (λ e. omega (arith, e, l, here)) ∙ zeros-behind ws p (omega (arith, is, low, l))

    at_place : (k : ℕ) → k ≡ q → slice_index_or (slice_set ws q x) k 0 ≢ 0
    at_place k e z = nz (sym (get_or-set_same ws q x 0 within) ∙ (ap (λ (i : ℕ). slice_index_or (slice_set ws q x) i 0) (sym e) ∙ z))

    by_last : (k : ℕ) → k + 1 ≡ next → (next ≡ used) ⊎ (next ≡ q + 1) → (k ≡ q) ⊎ ((k < q) ⊎ (q < k)) → slice_index_or (slice_set ws q x) k 0 ≢ 0
    by_last k e one (inl same) = at_place k same
    by_last k e (inr own) (inr apart) = at_place k (omega (arith, e, own))
    by_last k e (inl own) (inr (inl less)) = absurd (omega (arith, e, here, less))
    by_last k e (inl own) (inr (inr more)) = λ z. used-last ws k (omega (arith, e, own, is)) (sym (get_or-set_other ws q k x 0 (λ same. omega (arith, same, more))) ∙ z)

    last : (k : ℕ) → k + 1 ≡ next → slice_index_or (slice_set ws q x) k 0 ≢ 0
    last k e = by_last k e one (order k q)

-- behind the used words nothing is written but 0
set-none : (ws : List ℕ) (used q x : ℕ) → used ≡ used_of ws → q < length ws → (slice_index_or ws q 0 ≡ 0 → x ≡ 0) → (p : ℕ) → used ≤ p → slice_index_or (slice_set ws q x) p 0 ≡ 0
set-none ws used q x is within keeps p l = by_place (order p q)
  where
    here : p ≡ q → slice_index_or (slice_set ws q x) p 0 ≡ 0
    here e =
        ap (λ (i : ℕ). slice_index_or (slice_set ws q x) i 0) e ∙
        (get_or-set_same ws q x 0 within ∙ keeps (zeros-behind ws q (omega (arith, is, l, e))))

    there : p ≢ q → slice_index_or (slice_set ws q x) p 0 ≡ 0
    there ne = get_or-set_other ws q p x 0 ne ∙ zeros-behind ws p (omega (arith, is, l))

    by_place : (p ≡ q) ⊎ ((p < q) ⊎ (q < p)) → slice_index_or (slice_set ws q x) p 0 ≡ 0
    by_place (inl e) = here e
    by_place (inr (inl less)) = there (λ e. omega (arith, e, less))
    by_place (inr (inr more)) = there (λ e. omega (arith, e, more))

or-some : (word bit k : ℕ) → bit ≡ 2 ^ k → bit_or word bit ≢ 0
or-some word bit k is z =
    let set : bit_at (bit_or word (2 ^ k)) k ≡ 1 = or_same word k in
    let clear : bit_at (bit_or word (2 ^ k)) k ≡ 0 = ap (λ (b : ℕ). bit_at (bit_or word b) k) (sym is) ∙ (ap (λ (n : ℕ). bit_at n k) z ∙ bit_at-zero k) in
    absurd (omega (arith, set, clear))

and-none : (word mask : ℕ) → word ≡ 0 → bit_and word mask ≡ 0
and-none word mask e = omega (arith, e, and_le_l word mask)

-- The steps of the methods.

pub insert-row : (ws : List ℕ) (used node place bit next : ℕ) → IsRow ws used → place < WORDS → bit ≡ 2 ^ ((node - 1) % 64)
    → used ≤ next → place + 1 ≤ next → (next ≡ used) ⊎ (next ≡ place + 1) → IsRow (slice_set ws place (bit_or (slice_index_or ws place 0) bit)) next
insert-row ws used node place bit next h within is low here one =
    let words = insert-words ws node place bit (h.0, h.1) is in
    let more = set-more ws used place (bit_or (slice_index_or ws place 0) bit) next h.2 (omega (arith, h.0, within)) (or-some (slice_index_or ws place 0) bit ((node - 1) % 64) is) low here one in
    (words.0, words.1, more)

pub remove-row : (ws : List ℕ) (used place mask next : ℕ) → IsRow ws used → place < WORDS → next ≡ used_of (take used (slice_set ws place (bit_and (slice_index_or ws place 0) mask)))
    → IsRow (slice_set ws place (bit_and (slice_index_or ws place 0) mask)) next
remove-row ws used place mask next h within is =
    let words = remove-words ws place mask (h.0, h.1) in
    let x = bit_and (slice_index_or ws place 0) mask in
    let none = set-none ws used place x h.2 (omega (arith, h.0, within)) (and-none (slice_index_or ws place 0) mask) in
    (words.0, words.1, is ∙ used-take used (slice_set ws place x) none)

-- sets have the same used words exactly where they are the same
pub same-used : (ms ns us vs : List ℕ) (b : Bool) → us ≡ used_words ms → vs ≡ used_words ns → members_of us ≡ ms → members_of vs ≡ ns → b ≡ bytes_eq us vs → b ≡ (word_of ms == word_of ns)
same-used ms ns us vs b at_us at_vs of_us of_vs e = by_test b (word_of ms == word_of ns) (rw e (bytes_eq-Decides us vs)) (Decides-eqb (word_of ms) (word_of ns))
  where
    by_test : (b t : Bool) → Decides b (us ≡ vs) → Decides t (word_of ms ≡ word_of ns) → b ≡ t
    by_test true true d t = refl
    by_test false false d t = refl
    by_test true false d t = sym (t.1 (ap word_of (sym of_us ∙ (ap members_of (d.0 refl) ∙ of_vs))))
    by_test false true d t = d.1 (at_us ∙ (ap (λ (w : ℕ). take (used_of (words_among w WORDS)) (words_among w WORDS)) (t.0 refl) ∙ sym at_vs))

with-zero : (used : ℕ) → 0 ≡ used → 0 ≡ used_with 0 used
with-zero used e = grind (arith, nat_tests, e)

pub used-zeros : (n : ℕ) → 0 ≡ used_of (replicate n 0)
unfolding used_of
used-zeros zero = refl
used-zeros (suc n) = with-zero (used_of (replicate n 0)) (used-zeros n)
