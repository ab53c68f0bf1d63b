-- What is kept of the nodes shows them: all Normal nodes have one task.
use Rattle.std.proofs.Common.{◌≡◌, ◌<◌, ◌≤◌, ◌+◌, ◌++◌, ℕ, zero, suc, List, [], ◌∷◌, map, take, length, Option, None, add-one, arith, refl, sym, ap, subst, slice_index_or}
use Rattle.bully_base.specs.Places.{at_node}
use Rattle.bully_base.specs.declared.node.Status.{Status}
use Rattle.bully_base.specs.declared.node.Status.TheVariants.{Normal}
use Rattle.bully_handlers.specs.Vector.{Vector}
use Rattle.bully_world.specs.State.{StoredNode, empty_state, node_state_of}
use Rattle.bully_world.specs.World.{NodeState, World, empty_node_state}
use Rattle.bully_agree.specs.NodeViews.{IsNormalTask, kept_by, kept_of, shown_with, task_shown}
use Rattle.bully_agree.specs.View.{nothing_shown, shown_by, shown_of}
use Rattle.bully_agree.specs.declared.views.node_views.KeptNode.{KeptNode}

task-kept : (normal own : Option (List ℕ)) (s : Status) → (s ≡ Normal → normal ≡ own) → task_shown normal s (task_shown None s own) ≡ own
task-kept normal own Normal t = t refl
task-kept normal own s t = refl

by-kept : (normal : Option (List ℕ)) (v : Vector) → (v.status ≡ Normal → normal ≡ v.task) → shown_with normal (kept_by v) ≡ shown_by v
by-kept normal v t = ap (λ task. record { status = v.status; coordinator = v.coordinator; task = task }) (task-kept normal v.task v.status t)

list-kept : (normal : Option (List ℕ)) (ms : List NodeState) → ((k : ℕ) → (slice_index_or ms k empty_node_state).vector.status ≡ Normal → normal ≡ (slice_index_or ms k empty_node_state).vector.task) → map (shown_with normal) (map kept_of ms) ≡ map shown_of ms
list-kept normal [] t = refl
list-kept normal (m ∷ ms) t =
    let first = by-kept normal m.vector (t 0) in
    let rest = list-kept normal ms (λ k. t (suc k)) in
    cc (first, rest)

-- what is kept of each node shows it, with the task of the Normal ones
pub shown-kept : (w : World) (normal : Option (List ℕ)) → IsNormalTask w normal → map (shown_with normal) (map kept_of w.states) ≡ map shown_of w.states
shown-kept w normal t = list-kept normal w.states (λ k. t (suc k))

kept-place : (ms : List StoredNode) (k : ℕ) → k < length ms → map kept_of (take (suc k) (map node_state_of ms)) ≡ map kept_of (take k (map node_state_of ms)) ++ kept_of (node_state_of (slice_index_or ms k (empty_state 0))) ∷ []
kept-place [] k l = absurd (omega arith)
kept-place (m ∷ ms) zero l = refl
kept-place (m ∷ ms) (suc k) l = ap (λ xs. kept_of (node_state_of m) ∷ xs) (kept-place ms k (omega arith))

-- one node more is kept
pub kept-more : (ms : List StoredNode) (xs : List KeptNode) (s : KeptNode) (k i : ℕ) → k + 1 ≡ i → k < length ms → xs ≡ map kept_of (take k (map node_state_of ms)) → s ≡ kept_of (node_state_of (at_node (empty_state 0) ms i))
    → xs ++ s ∷ [] ≡ map kept_of (take (k + 1) (map node_state_of ms))
kept-more ms xs s k zero e l so now = absurd (omega arith)
kept-more ms xs s k (suc j) e l so now =
    let same : j ≡ k = omega arith in
    rw so (rw now (rw same (rw (add-one k) (sym (kept-place ms k l)))))

index-shown : (normal : Option (List ℕ)) (ks : List KeptNode) (k : ℕ) (x : KeptNode) → k < length ks → x ≡ slice_index_or ks k x → shown_with normal x ≡ slice_index_or (map (shown_with normal) ks) k nothing_shown
index-shown normal [] k x l is = absurd (omega arith)
index-shown normal (y ∷ ks) zero x l is = ap (shown_with normal) is
index-shown normal (y ∷ ks) (suc k) x l is = index-shown normal ks k x (omega arith) is

-- what is kept at a node's place shows the node
pub shown-at : (normal : Option (List ℕ)) (ks : List KeptNode) (k i : ℕ) (x : KeptNode) → k + 1 ≡ i → i ≤ length ks → x ≡ slice_index_or ks k x → shown_with normal x ≡ at_node nothing_shown (map (shown_with normal) ks) i
shown-at normal ks k zero x e l is = absurd (omega (arith, e))
shown-at normal ks k (suc j) x e l is =
    let same : k ≡ j = omega (arith, e) in
    subst (λ m. shown_with normal x ≡ slice_index_or (map (shown_with normal) ks) m nothing_shown) same (index-shown normal ks k x (omega (arith, e, l)) is)
