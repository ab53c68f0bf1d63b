-- Writes to the two parts of a list are writes to the list.
use Rattle.std.proofs.Common.{◌≡◌, ◌≢◌, ℕ, zero, suc, ◌<◌, List, [], ◌∷◌, ◌++◌, arith, refl, ap, take, drop, length, slice_set}

-- the earlier place in the front, the later one at the head of the rest
pub set-split : {A : Type 0} (xs : List A) (early late : ℕ) (a b : A) → early < late → late < length xs
    → slice_set (take late xs) early a ++ slice_set (drop late xs) 0 b ≡ slice_set (slice_set xs early a) late b
set-split [] early late a b l h = absurd (omega arith)
set-split (x ∷ xs) early zero a b l h = absurd (omega arith)
set-split {A = A} (x ∷ xs) zero (suc late) a b l h = ap (λ ys. a ∷ ys) (front xs late h)
  where
    front : (xs : List A) (late : ℕ) → suc late < suc (length xs) → take late xs ++ slice_set (drop late xs) 0 b ≡ slice_set xs late b
    front [] late h = absurd (omega arith)
    front (y ∷ ys) zero h = refl
    front (y ∷ ys) (suc late) h = ap (λ zs. y ∷ zs) (front ys late (omega arith))
set-split (x ∷ xs) (suc early) (suc late) a b l h = ap (λ ys. x ∷ ys) (set-split xs early late a b (omega arith) (omega arith))

-- writes to two places, in either order
pub set-set : {A : Type 0} (xs : List A) (i j : ℕ) (a b : A) → i ≢ j → slice_set (slice_set xs i a) j b ≡ slice_set (slice_set xs j b) i a
set-set [] i j a b n = refl
set-set (x ∷ xs) zero zero a b n = absurd (n refl)
set-set (x ∷ xs) zero (suc j) a b n = refl
set-set (x ∷ xs) (suc i) zero a b n = refl
set-set (x ∷ xs) (suc i) (suc j) a b n = ap (λ ys. x ∷ ys) (set-set xs i j a b (λ e. n (ap suc e)))
