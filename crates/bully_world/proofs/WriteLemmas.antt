-- What a write to one node's place leaves of every node.
use Rattle.std.proofs.Common.{◌≡◌, ◌≢◌, ℕ, ◌+◌, ◌<◌, ◌≤◌, ◌⊎◌, inl, inr, Bool, List, length, sym, ◌∙◌, ap, subst, arith, ◌==◌, ◌&&◌, if◌then◌else◌}
use Rattle.std.proofs.lemmas.Bool.Decides.{nat_tests}
use Rattle.bully_base.proofs.PlaceLemmas.{at_node_same, at_node_other}
use Rattle.bully_base.specs.Places.{put_node}
use Rattle.bully_world.specs.State.{StoredNode, empty_state, kept_of}
use Rattle.bully_world.proofs.WorldIn.{at_node-put_cases}

-- what is as it was of node i, where it is node j, is as it was of node j
pub put_keeps_if : {A : Type 0} (f : StoredNode → A) (ms : List StoredNode) (i j : ℕ) (s : StoredNode) → (j ≡ i → f s ≡ f (kept_of ms i)) → f (kept_of (put_node ms i s) j) ≡ f (kept_of ms j)
put_keeps_if f ms i j s keeps = by_case (at_node-put_cases (empty_state 0) ms i j s)
  where
    by_case : ((j ≡ i) × (kept_of (put_node ms i s) j ≡ s)) ⊎ (kept_of (put_node ms i s) j ≡ kept_of ms j) → f (kept_of (put_node ms i s) j) ≡ f (kept_of ms j)
    by_case (inl h) = ap f h.1 ∙ (keeps h.0 ∙ ap (λ k. f (kept_of ms k)) (sym h.0))
    by_case (inr h) = ap f h

pub put_keeps : {A : Type 0} (f : StoredNode → A) (ms : List StoredNode) (i j : ℕ) (s : StoredNode) → f s ≡ f (kept_of ms i) → f (kept_of (put_node ms i s) j) ≡ f (kept_of ms j)
put_keeps f ms i j s keeps = put_keeps_if f ms i j s (λ same. keeps)

-- one more where the test holds
abbrev pub raised : Bool → ℕ
raised b = if b then 1 else 0

-- a write that raises node i's generation where the test holds
pub put_raised : (ms : List StoredNode) (i j : ℕ) (s : StoredNode) (b : Bool) → 0 < i → i ≤ length ms → s.generation ≡ (kept_of ms i).generation + raised b → (kept_of (put_node ms i s) j).generation ≡ (kept_of ms j).generation + raised (b && (i == j))
put_raised ms i j s b pos l e = by_case (grind arith)
  where
    by_case : (j ≡ i) ⊎ (j ≢ i) → (kept_of (put_node ms i s) j).generation ≡ (kept_of ms j).generation + raised (b && (i == j))
    by_case (inl h) =
        let here : kept_of (put_node ms i s) i ≡ s = at_node_same (empty_state 0) ms i s pos l in
        subst (λ k. (kept_of (put_node ms i s) k).generation ≡ (kept_of ms k).generation + raised (b && (i == k))) (sym h)
        (ap (λ (m : StoredNode). m.generation) here ∙ (e ∙ same_test b i))
      where
        same_test : (b : Bool) (i : ℕ) → (kept_of ms i).generation + raised b ≡ (kept_of ms i).generation + raised (b && (i == i))
        same_test b i = grind (arith, nat_tests)
    by_case (inr h) = ap (λ (m : StoredNode). m.generation) (at_node_other (empty_state 0) ms i j s h) ∙ not_here b (kept_of ms j).generation i j h
      where
        not_here : (b : Bool) (g i j : ℕ) → j ≢ i → g ≡ g + raised (b && (i == j))
        not_here b g i j n = grind (arith, nat_tests, n)
