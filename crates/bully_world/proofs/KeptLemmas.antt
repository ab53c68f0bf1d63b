-- What is kept of each node after an event: its rooms, its tag and its generation.
use Rattle.std.proofs.Common.{◌≡◌, ℕ, zero, suc, ◌+◌, ◌<◌, ◌≤◌, ◌⊎◌, inl, inr, List, Option, Some, None, refl, sym, subst, arith, option_map, IfSome, slice_index_or}
use Rattle.std.proofs.Math.ListN.{replicate}
use Rattle.bully_base.specs.Places.{at_node, put_node}
use Rattle.bully_base.specs.Setup.{Setup, IsNode}
use Rattle.bully_calls.specs.declared.call.Outcome.{Outcome}
use Rattle.bully_calls.specs.declared.call.Phase.{Phase}
use Rattle.bully_calls.specs.Slot.{SlotCall, phased}
use Rattle.bully_handlers.specs.Vector.{Vector}
use Rattle.bully_steps.specs.declared.point.Point.{Point}
use Rattle.bully_world.specs.State.{kept_of, StoredNode, empty_state, IsKept, AllKept}
use Rattle.bully_world.specs.StateAfter.{proceeded_state, phased_state, with_content}
use Rattle.bully_world.proofs.WorldIn.{at_node-put_cases}

tag_later : (q : Option SlotCall) (g h : ℕ) → g ≤ h → IfSome q (λ p. p.tag.generation ≤ g) → IfSome q (λ p. p.tag.generation ≤ h)
tag_later None g h l t = tt
tag_later (Some p) g h l t = omega arith

-- another vector and point, and the generation or the next one
pub kept_with : (setup : Setup) (events i : ℕ) (m : StoredNode) (v : Vector) (p : Point) (g : ℕ) → m.generation ≤ g → g ≤ m.generation + 1 → IsKept setup events i m
    → IsKept setup (events + 1) i (record m { vector = record m.vector { vector = v }; point = p; generation = g })
kept_with setup events i m v p g low high k = record {
  vector_room = k.vector_room;
  slot_room = k.slot_room;
  caller = k.caller;
  tag = tag_later m.slot.content m.generation g low k.tag;
  generation = omega (arith, k.generation);
}

pub kept_empty : (setup : Setup) (events i : ℕ) (m : StoredNode) → IsKept setup events i m → IsKept setup events i (with_content None m)
kept_empty setup events i m k = record {
  vector_room = k.vector_room;
  slot_room = k.slot_room;
  caller = tt;
  tag = tt;
  generation = k.generation;
}

pub kept_later : (setup : Setup) (events i : ℕ) (m : StoredNode) → IsKept setup events i m → IsKept setup (events + 1) i m
kept_later setup events i m k = kept_with setup events i m m.vector.vector m.point m.generation (omega arith) (omega arith) k

pub kept_emptied : (setup : Setup) (events i : ℕ) (m : StoredNode) → IsKept setup events i m → IsKept setup (events + 1) i (with_content None m)
kept_emptied setup events i m k = kept_later setup events i (with_content None m) (kept_empty setup events i m k)

pub kept_phased : (setup : Setup) (events i : ℕ) (m : StoredNode) (f : Phase) → IsKept setup events i m → IsKept setup events i (phased_state f m)
kept_phased setup events i m f k = record {
  vector_room = k.vector_room;
  slot_room = k.slot_room;
  caller = caller_same m.slot.content k.caller;
  tag = tag_same m.slot.content k.tag;
  generation = k.generation;
}
  where
    caller_same : (q : Option SlotCall) → IfSome q (λ p. p.tag.caller ≡ i) → IfSome (option_map (phased f) q) (λ p. p.tag.caller ≡ i)
    caller_same None h = tt
    caller_same (Some p) h = h

    tag_same : (q : Option SlotCall) → IfSome q (λ p. p.tag.generation ≤ m.generation) → IfSome (option_map (phased f) q) (λ p. p.tag.generation ≤ m.generation)
    tag_same None h = tt
    tag_same (Some p) h = h

pub kept_proceeded : (setup : Setup) (events i : ℕ) (o : Outcome) (m : StoredNode) → IsKept setup events i m → IsKept setup (events + 1) i (proceeded_state setup i o m)
kept_proceeded setup events i o m k = kept_with setup events i m _ _ m.generation (omega arith) (omega arith) k

pub all_later : (setup : Setup) (events : ℕ) (ms : List StoredNode) → AllKept setup events ms → AllKept setup (events + 1) ms
all_later setup events ms kept j node = kept_later setup events j (kept_of ms j) (kept j node)

-- one place is written anew, with a state that is kept there
pub put_kept : (setup : Setup) (events : ℕ) (ms : List StoredNode) (i : ℕ) (s : StoredNode) → AllKept setup events ms → (IsNode setup i → IsKept setup events i s) → AllKept setup events (put_node ms i s)
put_kept setup events ms i s kept new j node = by_case (at_node-put_cases (empty_state 0) ms i j s)
  where
    by_case : ((j ≡ i) × (kept_of (put_node ms i s) j ≡ s)) ⊎ (kept_of (put_node ms i s) j ≡ kept_of ms j) → IsKept setup events j (kept_of (put_node ms i s) j)
    by_case (inl h) = subst (IsKept setup events j) (sym h.1) (subst (λ k. IsKept setup events k s) (sym h.0) (new (subst (IsNode setup) h.0 node)))
    by_case (inr h) = subst (IsKept setup events j) (sym h) (kept j node)

pub at_node-replicate : {A : Type 0} (d x : A) (n i : ℕ) → 0 < i → i ≤ n → at_node d (replicate n x) i ≡ x
at_node-replicate {A = A} d x n zero pos l = absurd (omega arith)
at_node-replicate {A = A} d x n (suc k) pos l = over_places n k l
  where
    over_places : (n k : ℕ) → k < n → slice_index_or (replicate n x) k d ≡ x
    over_places zero k l = absurd (omega arith)
    over_places (suc n) zero l = refl
    over_places (suc n) (suc k) l = over_places n k (omega arith)

-- what a new node has is kept
pub new_kept : (setup : Setup) → AllKept setup 0 (replicate setup.nodes (empty_state setup.partitions))
new_kept setup i node = subst (IsKept setup 0 i) (sym (at_node-replicate (empty_state 0) (empty_state setup.partitions) setup.nodes i node.0 node.1)) new
  where
    new : IsKept setup 0 i (empty_state setup.partitions)
    new = record { vector_room = refl; slot_room = refl; caller = tt; tag = tt; generation = omega arith }
