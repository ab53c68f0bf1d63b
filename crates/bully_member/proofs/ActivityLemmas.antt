-- Changes of what a process does on each partition, one partition after the other.
use Rattle.std.proofs.Common.{rules, ◌≡◌, ◌+◌, ◌<◌, ◌≤◌, ◌==◌, ◌++◌, ◌∷◌, [], ℕ, zero, suc, Bool, true, false, List, Option, Some, None, if◌then◌else◌, length, drop, slice_get, slice_index_or, slice_set, arith, refl, sym, ap, subst, ◌∙◌}
use Rattle.std.proofs.lemmas.Bool.Decides.{nat_tests}
use Rattle.std.proofs.lemmas.Option.{slice_get-get_or}
use Rattle.bully_member.specs.Activities.{busy, busy_from, changed, changed_from, ended_at, is_idle, works_at}
use Rattle.bully_member.specs.declared.values.Activity.{Activity}

-- the first n activities as this makes them, and the others as they are
abbrev pub changed_first : (ℕ → Activity → Activity) → ℕ → ℕ → List Activity → List Activity
changed_first change zero k works = works
changed_first change (suc n) k [] = []
changed_first change (suc n) k (a ∷ works) = change k a ∷ changed_first change n (suc k) works

same_change : (change : ℕ → Activity → Activity) (i j : ℕ) (a b : Activity) → i ≡ j → Some b ≡ Some a → change i a ≡ change j b
same_change change i j a b is same = cc (is, same)

pub changed_next : (change : ℕ → Activity → Activity) (n k : ℕ) (works : List Activity) (a : Activity) → slice_get (changed_first change n k works) n ≡ Some a
    → slice_set (changed_first change n k works) n (change (k + n) a) ≡ changed_first change (suc n) k works
changed_next change zero k [] a is = absurd (cc is)
changed_next change zero k (b ∷ works) a is = ap (λ x. x ∷ works) (same_change change (k + 0) k a b (omega arith) is)
changed_next change (suc n) k [] a is = absurd (cc is)
changed_next change (suc n) k (b ∷ works) a is =
    ap (λ (xs : List Activity). change k b ∷ xs) (ap (λ i. slice_set (changed_first change n (suc k) works) n (change i a)) (omega arith) ∙ changed_next change n (suc k) works a is)

pub changed_length : (change : ℕ → Activity → Activity) (n k : ℕ) (works : List Activity) → length (changed_first change n k works) ≡ length works
changed_length change zero k works = refl
changed_length change (suc n) k [] = refl
changed_length change (suc n) k (a ∷ works) = ap suc (changed_length change n (suc k) works)

pub changed_all : (change : ℕ → Activity → Activity) (n k : ℕ) (works : List Activity) → length works ≤ n → changed_first change n k works ≡ changed_from change k works
changed_all change zero k [] low = refl
changed_all change zero k (a ∷ works) low = absurd (omega (arith, low))
changed_all change (suc n) k [] low = refl
changed_all change (suc n) k (a ∷ works) low = ap (λ (xs : List Activity). change k a ∷ xs) (changed_all change n (suc k) works (omega (arith, low)))

pub changed_sizes : (change : ℕ → Activity → Activity) (k : ℕ) (works : List Activity) → length (changed_from change k works) ≡ length works
changed_sizes change k [] = refl
changed_sizes change k (a ∷ works) = ap suc (changed_sizes change (suc k) works)

-- ... by what a loop writes at index n
pub changed_at : (change : ℕ → Activity → Activity) (n : ℕ) (before works : List Activity) (d result : Activity) → works ≡ changed_first change n 0 before → n < length before → result ≡ change n (slice_index_or works n d)
    → slice_set works n result ≡ changed_first change (n + 1) 0 before
changed_at change n before works d result is low made =
    let size = changed_length change n 0 before in
    let some = slice_get-get_or (changed_first change n 0 before) n d (omega (arith, size, low)) in
    let at : n ≡ 0 + n = omega arith in
    let next : suc n ≡ n + 1 = omega arith in
    let there : slice_index_or works n d ≡ slice_index_or (changed_first change n 0 before) n d = ap (λ (xs : List Activity). slice_index_or xs n d) is in
    let value : result ≡ change (0 + n) (slice_index_or (changed_first change n 0 before) n d) = made ∙ cc (there, at) in
    ap (λ (xs : List Activity). slice_set xs n result) is
    ∙ (ap (slice_set (changed_first change n 0 before) n) value ∙ (changed_next change n 0 before (slice_index_or (changed_first change n 0 before) n d) some ∙ ap (λ i. changed_first change i 0 before) next))

pub changed_whole : (change : ℕ → Activity → Activity) (n : ℕ) (before works : List Activity) → works ≡ changed_first change n 0 before → length before ≤ n → works ≡ changed change before
changed_whole change n before works is high = is ∙ changed_all change n 0 before high

-- a work that ended: the others stay

differs : (i j : ℕ) → (i ≡ j → ⊥) → (i == j) ≡ false
differs i j apart = by_test (i == j) refl
  where
    by_test : (b : Bool) → (i == j) ≡ b → (i == j) ≡ false
    by_test true is = absurd (apart (grind (arith, nat_tests, is)))
    by_test false is = is

equals : (i j : ℕ) → i ≡ j → (i == j) ≡ true
equals i j is = grind (arith, nat_tests, is)

if_false : (b : Bool) (x y : Activity) → b ≡ false → (if b then x else y) ≡ y
if_false true x y is = absurd (cc is)
if_false false x y is = refl

if_true : (b : Bool) (x y : Activity) → b ≡ true → (if b then x else y) ≡ x
if_true true x y is = refl
if_true false x y is = absurd (cc is)

pub ended_none : (ended k : ℕ) (works : List Activity) → ((d : ℕ) → d < length works → k + d ≡ ended → ⊥) → changed_from (ended_at ended) k works ≡ works
ended_none ended k [] apart = refl
ended_none ended k (a ∷ works) apart =
    ap (λ x. x ∷ changed_from (ended_at ended) (suc k) works) (if_false (k == ended) Activity.Idle a (differs k ended (λ same. apart 0 (omega arith) (omega (arith, same)))))
    ∙ ap (λ (xs : List Activity). a ∷ xs) (ended_none ended (suc k) works (λ d low same. apart (suc d) (omega (arith, low)) (omega (arith, same))))

pub ended_one : (ended k n : ℕ) (works : List Activity) → n < length works → k + n ≡ ended → slice_set works n Activity.Idle ≡ changed_from (ended_at ended) k works
ended_one ended k n [] low at = absurd (omega (arith, low))
ended_one ended k zero (a ∷ works) low at =
    sym (ap (λ x. x ∷ changed_from (ended_at ended) (suc k) works) (if_true (k == ended) Activity.Idle a (equals k ended (omega (arith, at))))
    ∙ ap (λ (xs : List Activity). Activity.Idle ∷ xs) (ended_none ended (suc k) works (λ d low same. absurd (omega (arith, at, same)))))
ended_one ended k (suc n) (a ∷ works) low at =
    sym (ap (λ x. x ∷ changed_from (ended_at ended) (suc k) works) (if_false (k == ended) Activity.Idle a (differs k ended (λ same. absurd (omega (arith, at, same)))))
    ∙ ap (λ (xs : List Activity). a ∷ xs) (sym (ended_one ended (suc k) n works (omega (arith, low)) (omega (arith, at)))))

-- it works only on partitions that there are
pub works_within : (works : List Activity) (k : ℕ) → works_at works k ≡ true → k < length works
works_within [] k is = absurd (cc is)
works_within (a ∷ works) zero is = omega arith
works_within (a ∷ works) (suc k) is = let low = works_within works k is in omega (arith, low)

-- The partitions on which it works, so far.

abbrev pub busy_first : ℕ → ℕ → List Activity → List ℕ
busy_first zero k works = []
busy_first (suc n) k [] = []
busy_first (suc n) k (a ∷ works) = if is_idle a then busy_first n (suc k) works else k ∷ busy_first n (suc k) works

pub busy_next : (n k : ℕ) (works : List Activity) (a : Activity) → slice_get works n ≡ Some a → busy_first (suc n) k works ≡ busy_first n k works ++ (if is_idle a then [] else (k + n) ∷ [])
busy_next n k [] a is = absurd (cc is)
busy_next zero k (b ∷ works) a is = by_test (is_idle b) (is_idle a) (cc is)
  where
    by_test : (t u : Bool) → t ≡ u → (if t then [] else k ∷ []) ≡ [] ++ (if u then [] else (k + 0) ∷ [])
    by_test true true same = refl
    by_test true false same = absurd (cc same)
    by_test false true same = absurd (cc same)
    by_test false false same = ap (λ i. i ∷ []) (omega arith)
busy_next (suc n) k (b ∷ works) a is = by_test (is_idle b) (busy_first (suc n) (suc k) works) (busy_first n (suc k) works) (if is_idle a then [] else (suc k + n) ∷ []) (busy_next n (suc k) works a is) ∙ ap (λ i. busy_first (suc n) k (b ∷ works) ++ (if is_idle a then [] else i ∷ [])) at
  where
    at : suc k + n ≡ k + suc n
    at = omega arith

    by_test : (t : Bool) (new old more : List ℕ) → new ≡ old ++ more → (if t then new else k ∷ new) ≡ (if t then old else k ∷ old) ++ more
    by_test true new old more is = is
    by_test false new old more is = ap (λ (xs : List ℕ). k ∷ xs) is

pub busy_all : (n k : ℕ) (works : List Activity) → length works ≤ n → busy_first n k works ≡ busy_from k works
busy_all zero k [] low = refl
busy_all zero k (a ∷ works) low = absurd (omega (arith, low))
busy_all (suc n) k [] low = refl
busy_all (suc n) k (a ∷ works) low = ap (λ (xs : List ℕ). if is_idle a then xs else k ∷ xs) (busy_all n (suc k) works (omega (arith, low)))

-- ... by what a loop pushes at index n
pub busy_at : (n : ℕ) (works : List Activity) (d : Activity) (found new : List ℕ) → found ≡ busy_first n 0 works → n < length works → new ≡ found ++ (if is_idle (slice_index_or works n d) then [] else n ∷ []) → new ≡ busy_first (n + 1) 0 works
busy_at n works d found new is low pushed =
    let at : n ≡ 0 + n = omega arith in
    let next : suc n ≡ n + 1 = omega arith in
    pushed ∙ (ap (λ (xs : List ℕ). xs ++ (if is_idle (slice_index_or works n d) then [] else n ∷ [])) is
    ∙ (ap (λ i. busy_first n 0 works ++ (if is_idle (slice_index_or works n d) then [] else i ∷ [])) at
    ∙ (sym (busy_next n 0 works (slice_index_or works n d) (slice_get-get_or works n d low)) ∙ ap (λ i. busy_first i 0 works) next)))

pub busy_whole : (n : ℕ) (works : List Activity) (found : List ℕ) → found ≡ busy_first n 0 works → length works ≤ n → found ≡ busy works
busy_whole n works found is high = is ∙ busy_all n 0 works high

-- What is left of the list, once the first n are taken.

pub drop_next : (n : ℕ) (works : List Activity) (a : Activity) → slice_get works n ≡ Some a → drop n works ≡ a ∷ drop (suc n) works
drop_next n [] a is = absurd (cc is)
drop_next zero (b ∷ works) a is = ap (λ x. x ∷ works) (cc is)
drop_next (suc n) (b ∷ works) a is = drop_next n works a is

pub drop_all : (n : ℕ) (works : List Activity) → length works ≤ n → drop n works ≡ []
drop_all zero [] low = refl
drop_all zero (a ∷ works) low = absurd (omega (arith, low))
drop_all (suc n) [] low = refl
drop_all (suc n) (a ∷ works) low = drop_all n works (omega (arith, low))
