-- Lists of members in falling order.
use Rattle.std.proofs.Common.{◌≡◌, ◌≢◌, ℕ, zero, suc, ◌+◌, ◌<◌, ◌≤◌, Bool, true, false, List, [], ◌∷◌, length, is_none, arith, refl, sym, ap, ◌∙◌, ◌⊎◌, inl, inr, ◌-◌, ◌^◌, Contains, All, Option, IfSome, IsTrue, ◌↔◌, slice_index_or, nat_lt, ◌==◌, bytes_eq, not, if◌then◌else◌, Some, None, pow_pos}
use Rattle.std.specs.Bool.{Decides}
use Rattle.std.proofs.Math.Nat.{pow-le-pow_right, pow-suc}
use Rattle.std.proofs.lemmas.Bool.Decides.{nat_tests, Decides-eqb, Decides-ltb}
use Rattle.std.proofs.lemmas.List.Elements.{All-nil, All-cons, All-tail, All-weaker, All-contains}
use Rattle.std.proofs.lemmas.Slice.Eq.{bytes_eq-Decides}
use Rattle.bully_base.specs.NodeSet.{with_node, without_node, below_node, highest_of, lowest_of, word_of, IsFallingBelow}

-- the bound may be raised
pub IsFallingBelow-more : (b d : ℕ) (ms : List ℕ) → b ≤ d → IsFallingBelow b ms → IsFallingBelow d ms
IsFallingBelow-more b d [] l h = tt
IsFallingBelow-more b d (m ∷ ms) l h = (h.0, omega arith, h.2)

-- a new highest member goes to the front
pub with_node-top : (k : ℕ) (ms : List ℕ) → IsFallingBelow k ms → with_node k ms ≡ k ∷ ms
with_node-top k [] h = refl
with_node-top k (m ∷ ms) h = grind (arith, nat_tests, h.1)

pub without_node-top : (k : ℕ) (ms : List ℕ) (b : ℕ) → b ≤ k → IsFallingBelow b ms → without_node k ms ≡ ms
without_node-top k [] b l h = refl
without_node-top k (m ∷ ms) b l h = grind (arith, nat_tests, h.1, without_node-top k ms m (omega arith) h.2)

-- without its highest member, a falling list is its rest
pub without_node-highest : (k : ℕ) (ms : List ℕ) (b : ℕ) → IsFallingBelow b (k ∷ ms) → without_node k (k ∷ ms) ≡ ms
without_node-highest k ms b h = grind (arith, nat_tests, without_node-top k ms k (omega arith) h.2)

pub below_node-all : (k : ℕ) (ms : List ℕ) (b : ℕ) → b ≤ k → IsFallingBelow b ms → below_node k ms ≡ ms
below_node-all k [] b l h = refl
below_node-all k (m ∷ ms) b l h = grind (arith, nat_tests, h.1, below_node-all k ms m (omega arith) h.2)

-- Membership, as a list's.

abbrev pub Has : List ℕ → ℕ → Type 0
Has [] j = ⊥
Has (m ∷ ms) j = (j ≡ m) ⊎ Has ms j

pub Contains-tail : (m : ℕ) (ms : List ℕ) (j : ℕ) → Contains ms j → Contains (m ∷ ms) j
Contains-tail m ms j h = (suc h.0, omega arith, h.2)

pub Contains-from : (ms : List ℕ) (j : ℕ) → Has ms j → Contains ms j
Contains-from [] j h = absurd h
Contains-from (m ∷ ms) j (inl e) = (0, omega arith, sym e)
Contains-from (m ∷ ms) j (inr h) = Contains-tail m ms j (Contains-from ms j h)

pub Has-from : (ms : List ℕ) (j : ℕ) → Contains ms j → Has ms j
Has-from [] j h = absurd (omega arith)
Has-from (m ∷ ms) j h = by_index (Has-from ms j) h.0 h.1 h.2
  where
    by_index : (Contains ms j → Has ms j) → (k : ℕ) → k < suc (length ms) → slice_index_or (m ∷ ms) k j ≡ j → Has (m ∷ ms) j
    by_index more zero l e = inl (sym e)
    by_index more (suc k) l e = inr (more (k, omega arith, e))

-- The words on members are a set's.

with-cases : (k m j : ℕ) (ms ns : List ℕ) (b d : Bool) → (Has ns j → (j ≡ k) ⊎ Has ms j) → Has (if b then k ∷ m ∷ ms else (if d then m ∷ ms else m ∷ ns)) j → (j ≡ k) ⊎ Has (m ∷ ms) j
with-cases k m j ms ns true d more (inl e) = inl e
with-cases k m j ms ns true d more (inr h) = inr h
with-cases k m j ms ns false true more h = inr h
with-cases k m j ms ns false false more (inl e) = inr (inl e)
with-cases k m j ms ns false false more (inr h) = later (more h)
  where
    later : (j ≡ k) ⊎ Has ms j → (j ≡ k) ⊎ Has (m ∷ ms) j
    later (inl e) = inl e
    later (inr h) = inr (inr h)

with-back : (k m j : ℕ) (ms ns : List ℕ) (b d : Bool) → (d ≡ true → m ≡ k) → ((j ≡ k) ⊎ Has ms j → Has ns j) → (j ≡ k) ⊎ Has (m ∷ ms) j → Has (if b then k ∷ m ∷ ms else (if d then m ∷ ms else m ∷ ns)) j
with-back k m j ms ns true d same more (inl e) = inl e
with-back k m j ms ns true d same more (inr h) = inr h
with-back k m j ms ns false true same more (inl e) = inl (e ∙ sym (same refl))
with-back k m j ms ns false true same more (inr h) = h
with-back k m j ms ns false false same more (inl e) = inr (more (inl e))
with-back k m j ms ns false false same more (inr (inl e)) = inl e
with-back k m j ms ns false false same more (inr (inr h)) = inr (more (inr h))

with-Has : (k j : ℕ) (ms : List ℕ) → Has (with_node k ms) j ↔ ((j ≡ k) ⊎ Has ms j)
with-Has k j [] = ((λ h. h), (λ h. h))
with-Has k j (m ∷ ms) =
    let more = with-Has k j ms in
    (with-cases k m j ms (with_node k ms) (nat_lt m k) (m == k) more.0, with-back k m j ms (with_node k ms) (nat_lt m k) (m == k) (Decides-eqb m k).0 more.1)

without-cases : (k m j : ℕ) (ms ns : List ℕ) (d : Bool) → (m ≡ k → d ≡ true) → (Has ns j → Has ms j × (j ≢ k)) → Has (if not d then m ∷ ns else ns) j → Has (m ∷ ms) j × (j ≢ k)
without-cases k m j ms ns true same more h = (inr (more h).0, (more h).1)
without-cases k m j ms ns false same more (inl e) = (inl e, λ q. absurd (apart (same (sym e ∙ q))))
  where
    apart : false ≡ true → ⊥
    apart p = cc
without-cases k m j ms ns false same more (inr h) = (inr (more h).0, (more h).1)

without-back : (k m j : ℕ) (ms ns : List ℕ) (d : Bool) → (d ≡ true → m ≡ k) → (Has ms j × (j ≢ k) → Has ns j) → Has (m ∷ ms) j → j ≢ k → Has (if not d then m ∷ ns else ns) j
without-back k m j ms ns true same more (inl e) ne = absurd (ne (e ∙ same refl))
without-back k m j ms ns true same more (inr h) ne = more (h, ne)
without-back k m j ms ns false same more (inl e) ne = inl e
without-back k m j ms ns false same more (inr h) ne = inr (more (h, ne))

without-Has : (k j : ℕ) (ms : List ℕ) → Has (without_node k ms) j ↔ (Has ms j × (j ≢ k))
without-Has k j [] = ((λ h. absurd h), (λ h. absurd h.0))
without-Has k j (m ∷ ms) =
    let more = without-Has k j ms in
    (without-cases k m j ms (without_node k ms) (m == k) (Decides-eqb m k).1 more.0, (λ h. without-back k m j ms (without_node k ms) (m == k) (Decides-eqb m k).0 more.1 h.0 h.1))

-- exactly the new node and the members before are members
pub with_node-members : (ms : List ℕ) (k j : ℕ) → Contains (with_node k ms) j ↔ ((j ≡ k) ⊎ Contains ms j)
with_node-members ms k j = ((λ h. to ((with-Has k j ms).0 (Has-from (with_node k ms) j h))), (λ h. Contains-from (with_node k ms) j ((with-Has k j ms).1 (back h))))
  where
    to : (j ≡ k) ⊎ Has ms j → (j ≡ k) ⊎ Contains ms j
    to (inl e) = inl e
    to (inr h) = inr (Contains-from ms j h)

    back : (j ≡ k) ⊎ Contains ms j → (j ≡ k) ⊎ Has ms j
    back (inl e) = inl e
    back (inr h) = inr (Has-from ms j h)

-- exactly the other members are left
pub without_node-members : (ms : List ℕ) (k j : ℕ) → Contains (without_node k ms) j ↔ (Contains ms j × (j ≢ k))
without_node-members ms k j = ((λ h. to ((without-Has k j ms).0 (Has-from (without_node k ms) j h))), (λ h. Contains-from (without_node k ms) j ((without-Has k j ms).1 (Has-from ms j h.0, h.1))))
  where
    to : Has ms j × (j ≢ k) → Contains ms j × (j ≢ k)
    to h = (Contains-from ms j h.0, h.1)

falling-cases : (k m bound : ℕ) (ms ns : List ℕ) (b d : Bool) → (b ≡ true → m < k) → 0 < k → k < bound → IsFallingBelow bound (m ∷ ms) → (b ≡ false → d ≡ false → IsFallingBelow m ns) → IsFallingBelow bound (if b then k ∷ m ∷ ms else (if d then m ∷ ms else m ∷ ns))
falling-cases k m bound ms ns true d lower pos l h more = (pos, l, (h.0, lower refl, h.2))
falling-cases k m bound ms ns false true lower pos l h more = h
falling-cases k m bound ms ns false false lower pos l h more = (h.0, h.1, more refl refl)

between : (k m : ℕ) → nat_lt m k ≡ false → m == k ≡ false → k < m
between k m p q = grind (arith, nat_tests)

-- the members stay in falling order
pub with_node-falling : (ms : List ℕ) (k bound : ℕ) → 0 < k → k < bound → IsFallingBelow bound ms → IsFallingBelow bound (with_node k ms)
with_node-falling [] k bound pos l h = (pos, l, tt)
with_node-falling (m ∷ ms) k bound pos l h = falling-cases k m bound ms (with_node k ms) (nat_lt m k) (m == k) (Decides-ltb m k).0 pos l h (λ p q. with_node-falling ms k m pos (between k m p q) h.2)

pub falling-below : (ms : List ℕ) (bound : ℕ) → IsFallingBelow bound ms → All (λ j. j < bound) ms
falling-below [] bound h = All-nil (λ j. j < bound)
falling-below (m ∷ ms) bound h = All-cons (λ j. j < bound) m ms h.1 (All-weaker (λ j. j < m) (λ j. j < bound) (λ j l. omega arith) ms (falling-below ms m h.2))

-- what holds of a node and of each member holds of each member of the set with the node
pub with_node-all : (P : ℕ → Type 0) (k : ℕ) (ms : List ℕ) → P k → All P ms → All P (with_node k ms)
with_node-all P k [] here all = All-cons P k [] here all
with_node-all P k (m ∷ ms) here all = by_test (nat_lt m k) (m == k) (with_node-all P k ms here (All-tail P m ms all))
  where
    by_test : (a b : Bool) → All P (with_node k ms) → All P (if a then k ∷ m ∷ ms else (if b then m ∷ ms else m ∷ with_node k ms))
    by_test true b more = All-cons P k (m ∷ ms) here all
    by_test false true more = all
    by_test false false more = All-cons P m (with_node k ms) (all 0 m (omega arith)) more

-- the head of the list is the largest member
pub highest-largest : (ms : List ℕ) (bound : ℕ) → IsFallingBelow bound ms → IfSome (highest_of ms) (λ m. (Contains ms m) × All (λ j. j ≤ m) ms)
highest-largest [] bound h = tt
highest-largest (m ∷ ms) bound h = ((0, omega arith, refl), All-cons (λ j. j ≤ m) m ms (omega arith) (All-weaker (λ j. j < m) (λ j. j ≤ m) (λ j l. omega arith) ms (falling-below ms m h.2)))

-- the last of the list is the least member
pub lowest-least : (ms : List ℕ) (bound : ℕ) → IsFallingBelow bound ms → IfSome (lowest_of ms) (λ m. (Contains ms m) × All (λ j. m ≤ j) ms)
lowest-least [] bound h = tt
lowest-least (m ∷ []) bound h = ((0, omega arith, refl), All-cons (λ j. m ≤ j) m [] (omega arith) (All-nil (λ j. m ≤ j)))
lowest-least (m ∷ n ∷ ms) bound h = one_more (lowest_of (n ∷ ms)) (lowest-least (n ∷ ms) m h.2)
  where
    one_more : (o : Option ℕ) → IfSome o (λ k. (Contains (n ∷ ms) k) × All (λ j. k ≤ j) (n ∷ ms)) → IfSome o (λ k. (Contains (m ∷ n ∷ ms) k) × All (λ j. k ≤ j) (m ∷ n ∷ ms))
    one_more None more = tt
    one_more (Some k) more =
        let below : k < m = All-contains (λ j. j < m) (n ∷ ms) k (falling-below (n ∷ ms) m h.2) more.0 in
        (Contains-tail m (n ∷ ms) k more.0, All-cons (λ j. k ≤ j) m (n ∷ ms) (omega arith) more.1)

-- an empty set alone has no lowest member
lowest-some : (m : ℕ) (ms : List ℕ) → lowest_of (m ∷ ms) ≡ None → ⊥
lowest-some m [] e = absurd (cc)
lowest-some m (n ∷ ms) e = lowest-some n ms e

lowest-none : (ms : List ℕ) → (lowest_of ms ≡ None) ↔ (ms ≡ [])
lowest-none [] = ((λ e. refl), (λ e. refl))
lowest-none (m ∷ ms) = ((λ e. absurd (lowest-some m ms e)), (λ e. absurd (cc)))

pub lowest-empty : (ms : List ℕ) (lowest : Option ℕ) → lowest ≡ lowest_of ms → IsTrue (is_none lowest) ↔ (ms ≡ [])
lowest-empty ms None is = ((λ t. (lowest-none ms).0 (sym is)), (λ e. refl))
lowest-empty ms (Some m) is = ((λ t. absurd (cc)), (λ e. absurd (some_none (is ∙ (lowest-none ms).1 e))))
  where
    some_none : Some m ≡ None → ⊥
    some_none e = cc

-- The word of a falling list tells its members.

word_of-suc : (k : ℕ) (ms : List ℕ) → word_of (suc k ∷ ms) ≡ 2 ^ k + word_of ms
unfolding word_of
word_of-suc k ms = let e : suc k - 1 ≡ k = omega arith in rw e refl

-- the highest member says how large the word is
word_of-lt : (ms : List ℕ) (bound : ℕ) → IsFallingBelow (suc bound) ms → word_of ms < 2 ^ bound
unfolding word_of
word_of-lt [] bound h = pow_pos bound
word_of-lt (zero ∷ ms) bound h = absurd (omega (arith, h.0))
word_of-lt (suc k ∷ ms) bound h =
    let rest = word_of-lt ms k h.2 in
    let room : 2 ^ suc k ≤ 2 ^ bound = pow-le-pow_right (omega arith) (omega (arith, h.1)) in
    omega (arith, rest, room, pow-suc 2 k, word_of-suc k ms)

word_of-head : (k : ℕ) (ms : List ℕ) → 2 ^ k ≤ word_of (suc k ∷ ms)
word_of-head k ms = omega (arith, word_of-suc k ms)

-- a higher member makes the word larger, whatever stands below it
word_of-order : (j k : ℕ) (ms ns : List ℕ) → j < k → IsFallingBelow (suc j) ms → word_of (suc j ∷ ms) < word_of (suc k ∷ ns)
word_of-order j k ms ns l h =
    let small = word_of-lt (suc j ∷ ms) (suc j) (omega arith, omega arith, h) in
    let room : 2 ^ suc j ≤ 2 ^ k = pow-le-pow_right (omega arith) (omega arith) in
    omega (arith, small, room, word_of-head k ns)

word_of-rest : (j k : ℕ) (ms ns : List ℕ) → j ≡ k → word_of (suc j ∷ ms) ≡ word_of (suc k ∷ ns) → word_of ms ≡ word_of ns
word_of-rest j k ms ns q e = omega (arith, e, word_of-suc j ms, word_of-suc k ns, ap (λ i. 2 ^ i) q)

word_of-some : (m : ℕ) (ms : List ℕ) → 0 < word_of (m ∷ ms)
unfolding word_of
word_of-some m ms = omega (arith, pow_pos (m - 1))

-- falling lists with the same word are the same
pub word_of-same : (b : ℕ) (ms ns : List ℕ) → IsFallingBelow b ms → IsFallingBelow b ns → word_of ms ≡ word_of ns → ms ≡ ns
unfolding word_of
word_of-same b [] [] h k e = refl
word_of-same b [] (n ∷ ns) h k e = absurd (omega (arith, e, word_of-some n ns))
word_of-same b (m ∷ ms) [] h k e = absurd (omega (arith, e, word_of-some m ms))
word_of-same b (zero ∷ ms) (n ∷ ns) h k e = absurd (omega (arith, h.0))
word_of-same b (suc i ∷ ms) (zero ∷ ns) h k e = absurd (omega (arith, k.0))
word_of-same b (suc i ∷ ms) (suc j ∷ ns) h k e = by_order (grind arith) (word_of-same (suc i) ms)
  where
    by_order : (i < j) ⊎ ((j < i) ⊎ (i ≡ j)) → ((xs : List ℕ) → IsFallingBelow (suc i) ms → IsFallingBelow (suc i) xs → word_of ms ≡ word_of xs → ms ≡ xs) → suc i ∷ ms ≡ suc j ∷ ns
    by_order (inl l) more = absurd (omega (arith, e, word_of-order i j ms ns l h.2))
    by_order (inr (inl l)) more = absurd (omega (arith, e, word_of-order j i ns ms l k.2))
    by_order (inr (inr q)) more = ap (λ x. suc x ∷ ms) q ∙ ap (λ xs. suc j ∷ xs) (more ns h.2 (rw q k.2) (word_of-rest i j ms ns q e))

-- sets are the same list exactly where their words are equal
pub same_set_test : (bound : ℕ) (ms ns : List ℕ) (b : Bool) → IsFallingBelow bound ms → IsFallingBelow bound ns → b ≡ (word_of ms == word_of ns) → b ≡ bytes_eq ms ns
same_set_test bound ms ns b h k e = by_test b (bytes_eq ms ns) (bytes_eq-Decides ms ns) (rw e (Decides-eqb (word_of ms) (word_of ns)))
  where
    by_test : (b t : Bool) → Decides t (ms ≡ ns) → Decides b (word_of ms ≡ word_of ns) → b ≡ t
    by_test true true d e = refl
    by_test false false d e = refl
    by_test true false d e = sym (d.1 (word_of-same bound ms ns h k (e.0 refl)))
    by_test false true d e = e.1 (ap word_of (d.0 refl))

-- lists of different lengths are not the same
pub sizes_differ : (ms ns : List ℕ) → length ms ≢ length ns → false ≡ bytes_eq ms ns
sizes_differ ms ns n = by_test (bytes_eq ms ns) (bytes_eq-Decides ms ns)
  where
    by_test : (t : Bool) → Decides t (ms ≡ ns) → false ≡ t
    by_test false d = refl
    by_test true d = absurd (n (ap length (d.0 refl)))
