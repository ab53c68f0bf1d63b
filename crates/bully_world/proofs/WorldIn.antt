-- The world that a list of kept nodes stands for.
use Rattle.std.proofs.Common.{◌≡◌, ℕ, zero, suc, ◌⊎◌, inl, inr, List, [], ◌∷◌, refl, ap, map, length, slice_set, slice_index_or}
use Rattle.std.proofs.Math.ListN.{replicate}
use Rattle.bully_base.specs.Places.{at_node, put_node}
use Rattle.bully_world.specs.State.{StoredNode, empty_state, node_state_of, world_in}
use Rattle.bully_world.specs.World.{World, NodeState, empty_node_state, node_state, with_node_state}

-- what is written stands there, or the list is as it was
pub at_node-put_cases : {A : Type 0} (d : A) (xs : List A) (i j : ℕ) (x : A) → ((j ≡ i) × (at_node d (put_node xs i x) j ≡ x)) ⊎ (at_node d (put_node xs i x) j ≡ at_node d xs j)
at_node-put_cases {A = A} d xs i zero x = inr refl
at_node-put_cases {A = A} d xs zero (suc j) x = inr refl
at_node-put_cases {A = A} d xs (suc k) (suc j) x = over_places xs k j
  where
    one_on : (k j : ℕ) (p q : A) → ((suc j ≡ suc k) × (p ≡ x)) ⊎ (p ≡ q) → ((suc (suc j) ≡ suc (suc k)) × (p ≡ x)) ⊎ (p ≡ q)
    one_on k j p q (inl h) = inl (ap suc h.0, h.1)
    one_on k j p q (inr h) = inr h

    over_places : (xs : List A) (k j : ℕ) → ((suc j ≡ suc k) × (slice_index_or (slice_set xs k x) j d ≡ x)) ⊎ (slice_index_or (slice_set xs k x) j d ≡ slice_index_or xs j d)
    over_places [] k j = inr refl
    over_places (y ∷ ys) zero zero = inl (refl, refl)
    over_places (y ∷ ys) zero (suc j) = inr refl
    over_places (y ∷ ys) (suc k) zero = inr refl
    over_places (y ∷ ys) (suc k) (suc j) = one_on k j (slice_index_or (slice_set ys k x) j d) (slice_index_or ys j d) (over_places ys k j)

pub world_in-length : (ms : List StoredNode) → length (world_in ms).states ≡ length ms
world_in-length [] = refl
world_in-length (m ∷ ms) = ap suc (world_in-length ms)

map-set : (ms : List StoredNode) (k : ℕ) (s : StoredNode) → map node_state_of (slice_set ms k s) ≡ slice_set (map node_state_of ms) k (node_state_of s)
map-set [] k s = refl
map-set (m ∷ ms) zero s = refl
map-set (m ∷ ms) (suc k) s = ap (λ ys. node_state_of m ∷ ys) (map-set ms k s)

abbrev world_from : List NodeState → World
world_from states = record { states = states }

-- a write to a place is a write of its node state
pub world_in-put_node : (ms : List StoredNode) (i : ℕ) (s : StoredNode) → world_in (put_node ms i s) ≡ with_node_state (world_in ms) i (node_state_of s)
world_in-put_node ms zero s = refl
world_in-put_node ms (suc k) s = ap world_from (map-set ms k s)

index-map : (ms : List StoredNode) (k : ℕ) → slice_index_or (map node_state_of ms) k empty_node_state ≡ node_state_of (slice_index_or ms k (empty_state 0))
index-map [] k = refl
index-map (m ∷ ms) zero = refl
index-map (m ∷ ms) (suc k) = index-map ms k

-- a node's state, of every number
pub node_state-world_in : (ms : List StoredNode) (i : ℕ) → node_state (world_in ms) i ≡ node_state_of (at_node (empty_state 0) ms i)
node_state-world_in ms zero = refl
node_state-world_in ms (suc k) = index-map ms k

map-replicate : (n p : ℕ) → map node_state_of (replicate n (empty_state p)) ≡ replicate n empty_node_state
map-replicate zero p = refl
map-replicate (suc n) p = ap (λ ys. empty_node_state ∷ ys) (map-replicate n p)

-- new nodes stand for the first world
pub world_in-new : (n p : ℕ) → world_in (replicate n (empty_state p)) ≡ record { states = replicate n empty_node_state }
world_in-new n p = ap world_from (map-replicate n p)
