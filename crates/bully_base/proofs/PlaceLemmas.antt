-- Lists with a place for each node.
use Rattle.std.proofs.Common.{◌≡◌, ◌≢◌, ℕ, zero, suc, ◌+◌, ◌<◌, ◌≤◌, List, [], ◌∷◌, length, arith, refl, get_or-set_other, get_or-set_same, slice_index_or, slice_set, replicate}
use Rattle.std.proofs.lemmas.Grind.{common_steps}
use Rattle.std.proofs.Math.ListN.{length-set}
use Rattle.bully_base.specs.Places.{at_node, put_node}

-- what was written at node i is there
pub at_node_same : {A : Type 0} (nothing : A) (xs : List A) (i : ℕ) (x : A) → 0 < i → i ≤ length xs → at_node nothing (put_node xs i x) i ≡ x
at_node_same nothing xs zero x l h = absurd (omega arith)
at_node_same nothing xs (suc k) x l h = let lt : k < length xs = omega arith in rw get_or-set_same

-- the other nodes have what they had
pub at_node_other : {A : Type 0} (nothing : A) (xs : List A) (i j : ℕ) (x : A) → j ≢ i → at_node nothing (put_node xs i x) j ≡ at_node nothing xs j
at_node_other nothing xs zero j x d = refl
at_node_other nothing xs (suc k) zero x d = refl
at_node_other nothing xs (suc k) (suc j) x d = let ne : j ≢ k = omega arith in rw get_or-set_other

pub length-put_node : {A : Type 0} (xs : List A) (i : ℕ) (x : A) → length (put_node xs i x) ≡ length xs
length-put_node xs zero x = refl
length-put_node xs (suc k) x = length-set xs k x

index-replicate : {A : Type 0} (nothing : A) (n k : ℕ) → slice_index_or (replicate n nothing) k nothing ≡ nothing
index-replicate nothing zero k = refl
index-replicate nothing (suc n) zero = refl
index-replicate nothing (suc n) (suc k) = index-replicate nothing n k

-- where nothing was written, nothing is there
pub at_node_replicate : {A : Type 0} (nothing : A) (n i : ℕ) → at_node nothing (replicate n nothing) i ≡ nothing
at_node_replicate nothing n zero = refl
at_node_replicate nothing n (suc k) = index-replicate nothing n k

-- a number past the places has nothing
pub at_node_past : {A : Type 0} (nothing : A) (xs : List A) (i : ℕ) → length xs < i → at_node nothing xs i ≡ nothing
at_node_past nothing xs zero l = refl
at_node_past nothing xs (suc k) l = grind (arith, common_steps)

-- a node's place, read and written by its index
pub at_node-place : {A : Type 0} (d e : A) (xs : List A) (k i : ℕ) → k + 1 ≡ i → k < length xs → at_node d xs i ≡ slice_index_or xs k e
at_node-place {A = A} d e xs k zero s l = absurd (omega arith)
at_node-place {A = A} d e xs k (suc j) s l = let same : k ≡ j = omega arith in rw (← same) (any_default xs k l)
  where
    any_default : (xs : List A) (k : ℕ) → k < length xs → slice_index_or xs k d ≡ slice_index_or xs k e
    any_default [] k l = absurd (omega arith)
    any_default (x ∷ xs) zero l = refl
    any_default (x ∷ xs) (suc k) l = any_default xs k (omega arith)

pub put_node-place : {A : Type 0} (xs : List A) (k i : ℕ) (x : A) → k + 1 ≡ i → put_node xs i x ≡ slice_set xs k x
put_node-place xs k zero x s = absurd (omega arith)
put_node-place xs k (suc j) x s = let same : k ≡ j = omega arith in rw same refl
