-- What is kept of a node, and a world that has just that of it.
use Rattle.std.proofs.Common.{◌≡◌, ℕ, ◌+◌, ◌<◌, ◌^◌, inl, inr, List, length, Option, Some, None, refl, sym, ◌∙◌, ap, subst, arith, option_map, IfSome}
use Rattle.bully_base.specs.Setup.{Setup, IsNode}
use Rattle.bully_calls.specs.declared.call.Phase.{Phase}
use Rattle.bully_calls.specs.Slot.{SlotCall, pending_of}
use Rattle.bully_calls.specs.declared.event.Event.{Event}
use Rattle.bully_calls.specs.Events.{node_of}
use Rattle.bully_world.specs.Cause.{cause}
use Rattle.bully_world.specs.NodeInvariant.{NodeInvariant, WorldInvariant, SuitsPhase}
use Rattle.bully_world.specs.State.{StoredNode, node_state_of}
use Rattle.bully_world.specs.StateAfter.{down_state, node_after, node_answer, phased_state, CanApplyHere}
use Rattle.bully_world.specs.Step.{Step}
use Rattle.bully_world.specs.World.{World, NodeState, node_state, with_node_state, first_world}
use Rattle.bully_world.proofs.ApplyLemmas.{node_in_setup}
use Rattle.bully_world.proofs.CallInvariant.{phase_fits}
use Rattle.bully_world.proofs.EventLaws.{IsFree}
use Rattle.bully_world.proofs.Events.{own_laws}
use Rattle.bully_world.proofs.KeptLemmas.{kept_phased}
use Rattle.bully_world.proofs.NodeStateLemmas.{node_state_here, written_fits}
use Rattle.bully_world.proofs.NodeInvariantLemmas.{first_fits, first_node_state, step_fits}
use Rattle.bully_world.proofs.OwnEvents.{IsNoRun}
use Rattle.bully_world.proofs.SlotLemmas.{phased_is}
use Rattle.bully_agent.specs.Agent.{IsAgentOf, down_node_state}
use Rattle.bully_agent.specs.Part.{IsLike, IsPart}

-- what the world has of the node's vector and point
pub like_vector : (m : StoredNode) (x : NodeState) → IsLike m x → x.vector ≡ m.vector.vector
like_vector m x (inl e) = ap (λ (y : NodeState). y.vector) e
like_vector m x (inr u) = ap (λ (y : NodeState). y.vector) u.ran

-- the world where this is node i, and all others are as at first
abbrev pub alone : Setup → ℕ → StoredNode → World
alone setup i m = with_node_state (first_world setup) i (node_state_of m)

pub alone_here : (setup : Setup) (i : ℕ) (m : StoredNode) → IsNode setup i → node_state (alone setup i m) i ≡ node_state_of m
alone_here setup i m node = node_state_here setup (first_world setup) i (node_state_of m) (first_fits setup) node

-- so what fits is a part of some world
pub alone_part : (setup : Setup) (i : ℕ) (m : StoredNode) → IsNode setup i → NodeInvariant setup i (node_state_of m) → IsPart setup i m (alone setup i m)
alone_part setup i m node fits = record { fits = written_fits setup (first_world setup) i (node_state_of m) (first_fits setup) node fits; like = inl (alone_here setup i m node) }

-- an event that nothing refuses leads on from a world that has just this of its node
pub exact_follows : (setup : Setup) (e : Event) (w : World) (count : ℕ) (m : StoredNode) → IsNoRun e → IsFree setup w count e m
    → (w' : World) × Step setup w e w' (node_answer e m) × WorldInvariant setup w' × (node_state w' (node_of e) ≡ node_state_of (node_after setup e m))
exact_follows setup e w count m other free =
    let next = with_node_state w (node_of e) (node_state_of (node_after setup e m)) in
    let step : Step setup w e next (node_answer e m) = (own_laws setup e other).steps w count m free in (
      next,
      step,
      step_fits setup w e next (node_answer e m) step free.all,
      node_state_here setup w (node_of e) (node_state_of (node_after setup e m)) free.all (node_in_setup setup w count e free.none),
    )

-- what the event makes of it is kept of a node, too
pub exact_agent : (setup : Setup) (e : Event) (count : ℕ) (m : StoredNode) → IsNoRun e → IsAgentOf setup (node_of e) count m → cause setup (alone setup (node_of e) m) count e ≡ None → IsAgentOf setup (node_of e) (count + 1) (node_after setup e m)
exact_agent setup e count m other is none =
    let i = node_of e in
    let here = alone_here setup i m is.is_node in
    let next = exact_follows setup e (alone setup i m) count m other (record { all = (alone_part setup i m is.is_node is.fits).fits; here = here; none = none }) in
    record {
      is_node = is.is_node;
      fits = subst (NodeInvariant setup i) next.3 (next.2.fits i);
      kept = (own_laws setup e other).kept count m is.kept;
    }

-- its node state may take the event
pub exact_can : (setup : Setup) (e : Event) (count : ℕ) (m : StoredNode) → IsNoRun e → IsAgentOf setup (node_of e) count m → cause setup (alone setup (node_of e) m) count e ≡ None → count + 1 < 2 ^ 32 → CanApplyHere setup e m
exact_can setup e count m other is none room =
    let i = node_of e in
    let free : IsFree setup (alone setup i m) count e m = record { all = (alone_part setup i m is.is_node is.fits).fits; here = alone_here setup i m is.is_node; none = none } in
    record {
      at = is.fits.is_point;
      room = omega (arith, is.kept.generation, room);
      may = (own_laws setup e other).may (alone setup i m) count m free is.kept;
    }

-- a node that is Down and has kept a task

task_sized : (n : ℕ) (task : Option (List ℕ)) → IfSome task (λ t. length t ≡ n) → (table : List ℕ) → task ≡ Some table → length table ≡ n
task_sized n None sized table e = absurd (cc e)
task_sized n (Some t) sized table e = ap length (sym (some_same t table e)) ∙ sized
  where
    some_same : (x y : List ℕ) → Some x ≡ Some y → x ≡ y
    some_same x y e = cc e

down_fits : (setup : Setup) (i : ℕ) (task : Option (List ℕ)) → IfSome task (λ t. length t ≡ setup.partitions) → NodeInvariant setup i (down_node_state task)
down_fits setup i task sized = record {
  a_node = inl refl;
  down_idle = λ d. refl;
  down_free = λ d. refl;
  is_point = tt;
  by_setup = record { up = tt; task = task_sized setup.partitions task sized; coordinator = λ k e. absurd (grind (arith, e)) };
  by_point = tt;
  by_call = tt;
}

pub new_is : (setup : Setup) (i count : ℕ) (task : Option (List ℕ)) → IsNode setup i → IfSome task (λ t. length t ≡ setup.partitions) → IsAgentOf setup i count (down_state setup.partitions task)
new_is setup i count task node sized = record {
  is_node = node;
  fits = down_fits setup i task sized;
  kept = record { vector_room = refl; slot_room = refl; caller = tt; tag = tt; generation = omega arith };
}

pub new_part : (setup : Setup) (i : ℕ) (task : Option (List ℕ)) (w : World) → WorldInvariant setup w → node_state w i ≡ down_node_state task → IsPart setup i (down_state setup.partitions task) w
new_part setup i task w all down = record { fits = all; like = inl down }

pub new_first : (setup : Setup) (i : ℕ) (task : Option (List ℕ)) → task ≡ None → IsPart setup i (down_state setup.partitions task) (first_world setup)
new_first setup i task none = new_part setup i task (first_world setup) (first_fits setup) (first_node_state setup i ∙ ap down_node_state (sym none))

-- the call comes to another phase
pub phased_agent : (setup : Setup) (i count : ℕ) (m : StoredNode) (p : SlotCall) (f : Phase) → IsAgentOf setup i count m → m.slot.content ≡ Some p → SuitsPhase p.call.kind f → IsAgentOf setup i count (phased_state f m)
phased_agent setup i count m p f is content suits = record {
  is_node = is.is_node;
  fits = subst (NodeInvariant setup i) (sym (phased_is m p f content)) (phase_fits setup i (node_state_of m) (pending_of m.generation p) f is.fits (ap (option_map (pending_of m.generation)) content) suits);
  kept = kept_phased setup count i m f is.kept;
}
