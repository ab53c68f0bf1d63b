-- What is known of owners one by one.
use Rattle.std.proofs.Common.{◌≡◌, ℕ, ◌+◌, ◌<◌, ◌≤◌, Bool, true, false, List, [], ◌∷◌, zero, suc, length, take, get_or, arith, sym, refl, ◌∙◌, All, Contains, IsTrue, ◌↔◌}
use Rattle.bully_base.specs.NodeSet.{IsFallingBelow}
use Rattle.bully_base.specs.Setup.{Setup}
use Rattle.bully_table.specs.Balance.{count_of, base_of, IsFair, IsBalanced}
use Rattle.std.proofs.lemmas.Grind.{common_steps}
use Rattle.std.proofs.lemmas.List.Elements.{All-get_or, All-more, All-same, All-head}

-- an owner that is no member
pub not-all : (members owners : List ℕ) (i x : ℕ) (b : Bool) → i < length owners → x ≡ get_or owners i x → (Contains members x → IsTrue b) → b ≡ false → IsTrue false ↔ All (Contains members) owners
not-all members owners i x b l e has out = (
  λ t. absurd (cc),
  λ all.
      let there : Contains members (get_or owners i x) = All-get_or (Contains members) owners i x l all in
      let here : Contains members x = rw e there in
      sym out ∙ has here,
)

pub all-more : (members owners : List ℕ) (i x : ℕ) (b : Bool) → i < length owners → x ≡ get_or owners i x → (IsTrue b → Contains members x) → b ≡ true → All (Contains members) (take i owners) → All (Contains members) (take (i + 1) owners)
all-more members owners i x b l e has in_it all =
    let here : Contains members x = has in_it in
    All-more (Contains members) owners i x l all (rw (← e) here)

pub all-end : (members owners : List ℕ) (i : ℕ) → length owners ≤ i → All (Contains members) (take i owners) → IsTrue true ↔ All (Contains members) owners
all-end members owners i h all = (λ t. All-same (Contains members) owners (take i owners) (grind (arith, common_steps)) all, λ t. refl)

-- members are node numbers
pub falling-within : (bound : ℕ) (members : List ℕ) (j : ℕ) → IsFallingBelow bound members → Contains members j → (0 < j) × (j < bound)
falling-within bound [] j f (k, l, e) = absurd (omega arith)
falling-within bound (m ∷ ms) j f (zero, l, e) = (rw (← e) f.0, rw (← e) f.1)
falling-within bound (m ∷ ms) j f (suc k, l, e) =
    let lower = falling-within m ms j f.2 (k, omega arith, e) in
    (lower.0, omega arith)

-- and below what bounds them
pub falling-nodes : (bound nodes : ℕ) (members : List ℕ) → IsFallingBelow bound members → All (λ m. m ≤ nodes) members → IsFallingBelow (nodes + 1) members
falling-nodes bound nodes [] f all = tt
falling-nodes bound nodes (m ∷ ms) f all = (f.0, omega (arith, All-head (λ k. k ≤ nodes) m ms all), f.2)

-- what holds of the members below a number: of none, of one number more, and of all
pub below-first : (P : ℕ → Type 0) (bound : ℕ) (members : List ℕ) → IsFallingBelow bound members → (m : ℕ) → Contains members m → m < 1 → P m
below-first P bound members falling m x l = absurd (omega (arith, falling-within bound members m falling x))

-- the two tests, put together; the owners are read off the table twice
pub balanced-then : (setup : Setup) (table once twice members : List ℕ) (held fair : Bool) → once ≡ table → twice ≡ table →
    (IsTrue held ↔ All (Contains members) once) →
    (IsTrue fair ↔ ((m : ℕ) → Contains members m → IsFair (base_of setup members m) (count_of m twice))) →
    held ≡ true → IsTrue fair ↔ IsBalanced setup table members
balanced-then setup table once twice members held fair once_is twice_is holds fairs is = (
  λ t. record {
    owned = rw (← once_is) (holds.0 is);
    fair = rw (← twice_is) (fairs.0 t);
  },
  λ b. fairs.1 (rw twice_is b.fair),
)

pub balanced-else : (setup : Setup) (table once members : List ℕ) (held : Bool) → once ≡ table →
    (IsTrue held ↔ All (Contains members) once) → held ≡ false → IsTrue held ↔ IsBalanced setup table members
balanced-else setup table once members held once_is holds is = (λ t. absurd (cc), λ b. holds.1 (rw once_is b.owned))
