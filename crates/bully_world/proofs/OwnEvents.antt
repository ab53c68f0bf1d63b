-- Run, or an event of one node: every event but a Run writes its own node's place alone.
use Rattle.std.proofs.Common.{◌≡◌, ◌≤◌, ℕ, false, List, length, refl, arith, ◌↔◌, ◌==◌, ◌&&◌}
use Rattle.std.proofs.lemmas.Bool.Decides.{nat_tests}
use Rattle.bully_base.specs.Places.{put_node}
use Rattle.bully_base.specs.Setup.{Setup}
use Rattle.bully_calls.specs.declared.event.Event.{Event}
use Rattle.bully_calls.specs.Events.{node_of}
use Rattle.bully_world.specs.State.{StoredNode, kept_of, raises}
use Rattle.bully_world.specs.StateAfter.{state_after, node_after, answer_after, node_answer, CanApply, CanApplyHere}
use Rattle.bully_world.specs.World.{World}

-- the event is no Run
abbrev pub IsNoRun : Event → Type 0
IsNoRun e = (i : ℕ) → e ≡ Event.Run i → ⊥

-- the event is one of its node alone
pub record IsOwn (setup : Setup) (e : Event) : Type 0 where
  pub after : (ms : List StoredNode) → state_after setup ms e ≡ put_node ms (node_of e) (node_after setup e (kept_of ms (node_of e)))
  pub answer : (ms : List StoredNode) → answer_after ms e ≡ node_answer e (kept_of ms (node_of e))
  pub can : (ms : List StoredNode) → CanApply setup ms e ↔ ((node_of e ≤ length ms) × CanApplyHere setup e (kept_of ms (node_of e)))
  pub raises_own : (w : World) (j : ℕ) → raises w e j ≡ (raises w e (node_of e) && (node_of e == j))

only_own : (w : World) (e : Event) (j : ℕ) → IsNoRun e → raises w e j ≡ (raises w e (node_of e) && (node_of e == j))
only_own w (Event.Run i) j other = absurd (other i refl)
only_own w (Event.Crash i) j other = grind (arith, nat_tests)
only_own w e j other = refl

pub is_own : (setup : Setup) (e : Event) → IsNoRun e → IsOwn setup e
is_own setup (Event.Run i) other = absurd (other i refl)
is_own setup e other = record {
  after = λ ms. refl;
  answer = λ ms. refl;
  can = λ ms. ((λ c. c), (λ c. c));
  raises_own = λ w j. only_own w e j other;
}

-- it is the event of node i itself: none of the operator's, and no Run
abbrev pub IsNodesOwn : ℕ → Event → Type 0
IsNodesOwn i (Event.Recover k) = ⊥
IsNodesOwn i (Event.Crash k) = ⊥
IsNodesOwn i (Event.Run k) = ⊥
IsNodesOwn i e = node_of e ≡ i

-- such an event raises no generation
pub own_raises_nothing : (w : World) (i j : ℕ) (e : Event) → IsNodesOwn i e → raises w e j ≡ false
own_raises_nothing w i j (Event.Recover k) own = elim own [ ]
own_raises_nothing w i j (Event.Crash k) own = elim own [ ]
own_raises_nothing w i j (Event.Run k) own = elim own [ ]
own_raises_nothing w i j e own = refl
