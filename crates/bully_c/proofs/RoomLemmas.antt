-- What is written at the front of a room, and the members of a set one by one.
use Rattle.std.proofs.Common.{◌≡◌, ℕ, zero, suc, ◌+◌, ◌<◌, List, [], ◌∷◌, ◌++◌, Some, ap, arith, drop, length, slice_get, slice_set, take}
use Rattle.std.proofs.lemmas.Bool.Decides.{nat_tests}
use Rattle.std.proofs.lemmas.Grind.{common_steps}
use Rattle.bully_base.specs.NodeSet.{IsFallingBelow, below_node, highest_of}
use Rattle.bully_base.proofs.NodeSetLemmas.{below_node-all}

-- one more of the items stands at the front
pub one-more : (k x : ℕ) (items room : List ℕ) → slice_get items k ≡ Some x → k < length room
    → slice_set (take k items ++ drop k room) k x ≡ take (k + 1) items ++ drop (k + 1) room
one-more zero x [] room e l = grind (arith, e)
one-more zero x (i ∷ items) [] e l = absurd (omega arith)
one-more zero x (i ∷ items) (r ∷ room) e l = grind (arith, common_steps, e)
one-more (suc k) x [] room e l = grind (arith, e)
one-more (suc k) x (i ∷ items) [] e l = absurd (omega arith)
one-more (suc k) x (i ∷ items) (r ∷ room) e l =
    let more = ap (λ (xs : List ℕ). i ∷ xs) (one-more k x items room e (omega arith)) in let next : suc k + 1 ≡ suc (k + 1) = omega arith in rw next more

-- a member of a falling set is below its bound
low : (bound k m : ℕ) (set : List ℕ) → IsFallingBelow bound set → slice_get set k ≡ Some m → m < bound
low bound k m [] falling e = grind (arith, e)
low bound zero m (a ∷ set) falling e = grind (arith, common_steps, e, falling.1)
low bound (suc k) m (a ∷ set) falling e = let below = low a k m set falling.2 e in omega (arith, below, falling.1)

-- the next member of a falling set is the highest one below this
pub next-member : (bound k m : ℕ) (set : List ℕ) → IsFallingBelow bound set → slice_get set k ≡ Some m → highest_of (below_node m set) ≡ slice_get set (k + 1)
next-member bound k m [] falling e = grind (arith, e)
next-member bound zero m (a ∷ []) falling e = grind (arith, nat_tests, common_steps, e)
next-member bound zero m (a ∷ b ∷ set) falling e =
    let same = below_node-all a (b ∷ set) a (omega arith) falling.2 in grind (arith, nat_tests, common_steps, e, same)
next-member bound (suc k) m (a ∷ set) falling e =
    let below = low a k m set falling.2 e in let more = next-member a k m set falling.2 e in grind (arith, nat_tests, common_steps, below, more)
