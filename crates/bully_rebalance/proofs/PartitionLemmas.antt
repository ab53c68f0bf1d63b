-- The partitions of a node in a table: exactly those that the table gives it, and rising.
use Rattle.std.proofs.Common.{◌≡◌, ◌≢◌, ◌<◌, ◌≤◌, ◌+◌, ◌++◌, ◌↔◌, ◌==◌, inl, inr, if◌then◌else◌, ℕ, zero, suc, Bool, true, false, List, [], ◌∷◌, Some, IsTrue, Contains, length, take, slice_get, arith, refl, sym, ap, subst, ◌∙◌}
use Rattle.std.proofs.lemmas.Bool.Decides.{Decides-eqb}
use Rattle.std.proofs.lemmas.List.{take_more, length-take}
use Rattle.std.proofs.lemmas.Option.{get_or_from_slice_get, slice_get_within}
use Rattle.bully_base.proofs.NodeSetLemmas.{Contains-from, Has, Has-from}
use Rattle.bully_rebalance.specs.Owning.{IsRisingFrom, partitions_from, partitions_of}
use Rattle.bully_work.specs.Working.{GivesTo}

-- what a table gives behind so many partitions
abbrev pub GivesBehind : ℕ → List ℕ → ℕ → ℕ → Type 0
GivesBehind k table i j = (m : ℕ) × (j ≡ k + m) × GivesTo table m i

has_given : (k : ℕ) (table : List ℕ) (i j : ℕ) → Has (partitions_from k table i) j → GivesBehind k table i j
has_given k [] i j h = absurd h
has_given k (owner ∷ table) i j h = by_test (owner == i) (Decides-eqb owner i).0 h (has_given (suc k) table i j)
  where
    later : GivesBehind (suc k) table i j → GivesBehind k (owner ∷ table) i j
    later (m, e, g) = (suc m, omega (arith, e), g)

    by_test : (b : Bool) → (b ≡ true → owner ≡ i) → Has (if b then k ∷ partitions_from (suc k) table i else partitions_from (suc k) table i) j → (Has (partitions_from (suc k) table i) j → GivesBehind (suc k) table i j) → GivesBehind k (owner ∷ table) i j
    by_test true same (inl e) more = (0, omega (arith, e), ap Some (same refl))
    by_test true same (inr h) more = later (more h)
    by_test false same h more = later (more h)

given_has : (k : ℕ) (table : List ℕ) (i m j : ℕ) → j ≡ k + m → GivesTo table m i → Has (partitions_from k table i) j
given_has k [] i m j e g = absurd (cc)
given_has k (owner ∷ table) i zero j e g = by_test (owner == i) (Decides-eqb owner i).1
  where
    same : owner ≡ i
    same = cc

    by_test : (b : Bool) → (owner ≡ i → b ≡ true) → Has (if b then k ∷ partitions_from (suc k) table i else partitions_from (suc k) table i) j
    by_test true is = inl (omega (arith, e))
    by_test false is = let no = is same in absurd (cc)
given_has k (owner ∷ table) i (suc m) j e g = by_test (owner == i) (given_has (suc k) table i m j (omega (arith, e)) g)
  where
    by_test : (b : Bool) → Has (partitions_from (suc k) table i) j → Has (if b then k ∷ partitions_from (suc k) table i else partitions_from (suc k) table i) j
    by_test true h = inr h
    by_test false h = h

pub partitions_exact : (table : List ℕ) (i k : ℕ) → Contains (partitions_of table i) k ↔ GivesTo table k i
partitions_exact table i k = (there, λ g. Contains-from (partitions_of table i) k (given_has 0 table i k k (omega arith) g))
  where
    at_place : GivesBehind 0 table i k → GivesTo table k i
    at_place (m, e, g) = subst (λ x. GivesTo table x i) (omega (arith, e)) g

    there : Contains (partitions_of table i) k → GivesTo table k i
    there has = at_place (has_given 0 table i k (Has-from (partitions_of table i) k has))

rising_from : (k least : ℕ) (table : List ℕ) (i : ℕ) → least ≤ k → IsRisingFrom least (partitions_from k table i)
rising_from k least [] i low = tt
rising_from k least (owner ∷ table) i low = by_test (owner == i) (rising_from (suc k) (suc k) table i (omega arith)) (rising_from (suc k) least table i (omega (arith, low)))
  where
    by_test : (b : Bool) → IsRisingFrom (suc k) (partitions_from (suc k) table i) → IsRisingFrom least (partitions_from (suc k) table i)
        → IsRisingFrom least (if b then k ∷ partitions_from (suc k) table i else partitions_from (suc k) table i)
    by_test true above more = (low, above)
    by_test false above more = more

pub partitions_rise : (table : List ℕ) (i : ℕ) → IsRisingFrom 0 (partitions_of table i)
partitions_rise table i = rising_from 0 0 table i (omega arith)

-- one owner more
last_from : (k : ℕ) (table : List ℕ) (owner i : ℕ) → partitions_from k (table ++ owner ∷ []) i ≡ partitions_from k table i ++ (if owner == i then (k + length table) ∷ [] else [])
last_from k [] owner i = by_test (owner == i)
  where
    by_test : (b : Bool) → (if b then k ∷ [] else []) ≡ (if b then (k + 0) ∷ [] else [])
    by_test true = ap (λ x. x ∷ []) (omega arith)
    by_test false = refl
last_from k (first ∷ table) owner i = by_test (first == i) (last_from (suc k) table owner i)
  where
    counted : suc k + length table ≡ k + length (first ∷ table)
    counted = omega arith

    same : (if owner == i then (suc k + length table) ∷ [] else []) ≡ (if owner == i then (k + length (first ∷ table)) ∷ [] else [])
    same = ap (λ n. if owner == i then n ∷ [] else []) counted

    by_test : (b : Bool) → partitions_from (suc k) (table ++ owner ∷ []) i ≡ partitions_from (suc k) table i ++ (if owner == i then (suc k + length table) ∷ [] else [])
        → (if b then k ∷ partitions_from (suc k) (table ++ owner ∷ []) i else partitions_from (suc k) (table ++ owner ∷ []) i)
        ≡ (if b then k ∷ partitions_from (suc k) table i else partitions_from (suc k) table i) ++ (if owner == i then (k + length (first ∷ table)) ∷ [] else [])
    by_test true more = ap (λ xs. k ∷ xs) (more ∙ ap (λ xs. partitions_from (suc k) table i ++ xs) same)
    by_test false more = more ∙ ap (λ xs. partitions_from (suc k) table i ++ xs) same

taken : (table : List ℕ) (place owner i : ℕ) → slice_get table place ≡ Some owner → partitions_of (take (place + 1) table) i ≡ partitions_of (take place table) i ++ (if owner == i then place ∷ [] else [])
taken table place owner i is =
    ap (λ t. partitions_of t i) (take_more table place owner within ∙ ap (λ x. take place table ++ x ∷ []) (get_or_from_slice_get table place owner owner is))
    ∙ last_from 0 (take place table) owner i ∙ ap (λ n. partitions_of (take place table) i ++ (if owner == i then n ∷ [] else [])) counted
  where
    within : place < length table
    within = slice_get_within table place owner is

    counted : 0 + length (take place table) ≡ place
    counted = let size = length-take place table in omega (arith, size, within)

-- one partition more, which is the node's or another's
pub one_more : (items now table : List ℕ) (place owner i : ℕ) (b : Bool) → items ≡ partitions_of (take place table) i → slice_get table place ≡ Some owner → b ≡ (owner == i)
    → now ≡ items ++ (if b then place ∷ [] else []) → now ≡ partitions_of (take (place + 1) table) i
one_more items now table place owner i b so_far is tests push =
    push ∙ ap (λ xs. xs ++ (if b then place ∷ [] else [])) so_far ∙ ap (λ t. partitions_of (take place table) i ++ (if t then place ∷ [] else [])) tests ∙ sym (taken table place owner i is)

-- a node that is given a partition has one
pub gives_some : (table : List ℕ) (k i : ℕ) → GivesTo table k i → partitions_of table i ≢ []
gives_some table k i gives none = subst (λ ks. Has ks k) none (given_has 0 table i k k (omega arith) gives)

-- a node that is given none has none
pub gives_none : (table : List ℕ) (i : ℕ) → ((k : ℕ) → GivesTo table k i → ⊥) → partitions_of table i ≡ []
gives_none table i none = by_list (partitions_of table i) (λ k. (partitions_exact table i k).0)
  where
    by_list : (ks : List ℕ) → ((k : ℕ) → Contains ks k → GivesTo table k i) → ks ≡ []
    by_list [] gives = refl
    by_list (k ∷ ks) gives = absurd (none k (gives k (Contains-from (k ∷ ks) k (inl refl))))

pub any_found : (table : List ℕ) (place owner i : ℕ) → slice_get table place ≡ Some owner → owner ≡ i → IsTrue true ↔ (partitions_of table i ≢ [])
any_found table place owner i is same = ((λ _. gives_some table place i (is ∙ ap Some same)), λ _. refl)

pub none_found : (table : List ℕ) (place i : ℕ) → length table ≤ place → ((k : ℕ) → k < place → GivesTo table k i → ⊥) → IsTrue false ↔ (partitions_of table i ≢ [])
none_found table place i all none = ((λ t. absurd (differs t)), λ some. absurd (some (gives_none table i (λ k gives. none k (let l = slice_get_within table k i gives in omega (arith, l, all)) gives))))
  where
    differs : IsTrue false → ⊥
    differs t = cc
