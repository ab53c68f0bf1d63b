-- The test whether a table is balanced tells whether it is.
use Rattle.std.proofs.Common.{◌≡◌, ℕ, zero, suc, ◌+◌, ◌<◌, ◌≤◌, Bool, true, false, List, [], ◌∷◌, length, arith, refl, ◌⊎◌, inl, inr, ◌||◌, ◌==◌, nat_le, slice_index_or, All, Contains}
use Rattle.std.specs.List.{list_all, list_any}
use Rattle.std.specs.Bool.{Decides}
use Rattle.std.proofs.lemmas.Bool.{or_right}
use Rattle.std.proofs.lemmas.Bool.Decides.{nat_tests, Decides-eqb, Decides-by_and, Decides-and}
use Rattle.std.proofs.lemmas.List.Elements.{All-nil, All-cons, All-contains}
use Rattle.bully_base.specs.Setup.{Setup}
use Rattle.bully_table.specs.Balance.{count_of, base_of, IsFair, is_fair, IsBalanced, is_balanced}

pub all_decides : (test : ℕ → Bool) (P : ℕ → Type 0) → ((x : ℕ) → Decides (test x) (P x)) → (xs : List ℕ) → Decides (list_all test xs) (All P xs)
all_decides test P each xs = Decides-by_and test P (list_all test) each refl (λ _ _. refl) xs

pub later : (m k : ℕ) (ms : List ℕ) → Contains ms k → Contains (m ∷ ms) k
later m k ms h = (suc h.0, omega (arith, h.1), h.2)

pub earlier : (m k : ℕ) (ms : List ℕ) → Contains (m ∷ ms) k → (m ≡ k) ⊎ Contains ms k
earlier m k ms h = by_index h.0 h.1 h.2
  where
    by_index : (n : ℕ) → n < suc (length ms) → slice_index_or (m ∷ ms) n k ≡ k → (m ≡ k) ⊎ Contains ms k
    by_index zero l e = inl e
    by_index (suc n) l e = inr (n, omega arith, e)

-- the test whether a number is in a list
pub any_decides : (k : ℕ) (ms : List ℕ) → Decides (list_any (λ m. m == k) ms) (Contains ms k)
any_decides k [] = ((λ e. absurd (grind arith)), (λ h. absurd (omega (arith, h.1))))
any_decides k (m ∷ ms) = joined (any_decides k ms)
  where
    to : (b : Bool) → (list_any (λ m. m == k) ms ≡ true → Contains ms k) → m == k ≡ b → (b || list_any (λ m. m == k) ms) ≡ true → Contains (m ∷ ms) k
    to true more e t = (0, omega arith, (Decides-eqb m k).0 e)
    to false more e t = later m k ms (more t)

    back : (Contains ms k → list_any (λ m. m == k) ms ≡ true) → (m ≡ k) ⊎ Contains ms k → (m == k || list_any (λ m. m == k) ms) ≡ true
    back more (inl e) = rw ((Decides-eqb m k).1 e) refl
    back more (inr h) = or_right (m == k) (list_any (λ m. m == k) ms) (more h)

    joined : Decides (list_any (λ m. m == k) ms) (Contains ms k) → Decides (m == k || list_any (λ m. m == k) ms) (Contains (m ∷ ms) k)
    joined more = (to (m == k) more.0 refl, λ h. back more.1 (earlier m k ms h))

-- what holds of each number in a list holds of all its elements
pub All-from_contains : (P : ℕ → Type 0) (xs : List ℕ) → ((x : ℕ) → Contains xs x → P x) → All P xs
All-from_contains P [] h = All-nil P
All-from_contains P (x ∷ xs) h = All-cons P x xs (h x (0, omega arith, refl)) (All-from_contains P xs (λ y c. h y (later x y xs c)))

leb_decides : (a b : ℕ) → Decides (nat_le a b) (a ≤ b)
leb_decides a b = (λ e. grind (arith, nat_tests, e), λ l. grind (arith, nat_tests, l))

fair_decides : (base count : ℕ) → Decides (is_fair base count) (IsFair base count)
fair_decides base count = Decides-and _ _ (leb_decides base count) (leb_decides count (base + 1))

owned_decides : (table ms : List ℕ) → Decides (list_all (λ owner. list_any (λ m. m == owner) ms) table) (All (Contains ms) table)
owned_decides table ms = all_decides _ _ (λ owner. any_decides owner ms) table

-- each member owns its base, or one more
abbrev AreFair : Setup → List ℕ → List ℕ → Type 0
AreFair setup t m = All (λ a. IsFair (base_of setup m a) (count_of a t)) m

fairs_decides : (setup : Setup) (t m : List ℕ) → Decides (list_all (λ a. is_fair (base_of setup m a) (count_of a t)) m) (AreFair setup t m)
fairs_decides setup t m = all_decides _ _ (λ a. fair_decides (base_of setup m a) (count_of a t)) m

pub is_balanced_decides : (setup : Setup) (t m : List ℕ) → (is_balanced setup t m ≡ true → IsBalanced setup t m) × (IsBalanced setup t m → is_balanced setup t m ≡ true)
is_balanced_decides setup t m =
    let both = Decides-and _ _ (owned_decides t m) (fairs_decides setup t m) in
    (to both.0, λ h. both.1 (h.owned, All-from_contains _ m (λ a x. h.fair a x)))
  where
    to : (is_balanced setup t m ≡ true → All (Contains m) t × AreFair setup t m) → is_balanced setup t m ≡ true → IsBalanced setup t m
    to both e = record { owned = (both e).0; fair = λ a x. All-contains (λ b. IsFair (base_of setup m b) (count_of b t)) m a (both e).1 x }
