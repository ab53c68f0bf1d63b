-- Why an event is refused, read off what is kept of its node.
use Rattle.std.proofs.Common.{◌≡◌, ℕ, ◌+◌, ◌<◌, ◌≤◌, Bool, true, false, List, Option, Some, None, arith, refl, sym, ◌∙◌, ap, subst, length, not, IfSome, option_map, slice_index_or, if◌then◌else◌}
use Rattle.std.proofs.lemmas.Bool.Decides.{nat_tests}
use Rattle.bully_base.proofs.PlaceLemmas.{at_node-place}
use Rattle.bully_base.specs.Setup.{Setup, IsNode}
use Rattle.bully_table.proofs.BalanceLemmas.{is_balanced_decides}
use Rattle.bully_table.specs.Balance.{IsBalanced, is_balanced}
use Rattle.bully_calls.specs.Slot.{SlotCall, pending_of}
use Rattle.bully_base.specs.declared.node.Status.{Status}
use Rattle.bully_base.specs.declared.node.Status.TheVariants.{Down, Election, Reorganization, Normal}
use Rattle.bully_handlers.specs.Vector.{is_down}
use Rattle.bully_calls.specs.declared.event.Event.{Event}
use Rattle.bully_calls.specs.declared.event.Refused.{Refused}
use Rattle.bully_calls.specs.Events.{node_of}
use Rattle.bully_world.specs.Cause.{refuses, first_of, later_refusals, cause, is_down_at}
use Rattle.bully_world.specs.NodeInvariant.{WorldInvariant, SuitsPending}
use Rattle.bully_world.specs.State.{StoredNode, empty_state, node_state_of, world_in}
use Rattle.bully_world.specs.World.{World, NodeState, node_state}
use Rattle.bully_world.proofs.WorldIn.{node_state-world_in, world_in-length}

-- what stands at a node's place is its state
pub node_state-place : (ms : List StoredNode) (k i : ℕ) (s : StoredNode) → k + 1 ≡ i → k < length ms → s ≡ slice_index_or ms k s → node_state (world_in ms) i ≡ node_state_of s
node_state-place ms k i s e l is = node_state-world_in ms i ∙ ap node_state_of (at_node-place (empty_state 0) s ms k i e l ∙ sym is)

pub place-within : (setup : Setup) (ms : List StoredNode) (k i : ℕ) → WorldInvariant setup (world_in ms) → k + 1 ≡ i → i ≤ setup.nodes → k < length ms
place-within setup ms k i all e l = omega (arith, world_in-length ms, all.count)

-- the state of the node that this event names, of an event that is the same
pub named_is : (w : World) (m : NodeState) (e f : Event) → e ≡ f → node_state w (node_of e) ≡ m → node_state w (node_of f) ≡ m
named_is w m e f same is = ap (λ x. node_state w (node_of x)) (sym same) ∙ is

-- what refuses an event that is this one
pub at_event : (setup : Setup) (w : World) (count : ℕ) (e f : Event) (r : Option Refused) → e ≡ f → r ≡ first_of (refuses setup w count f) later_refusals → r ≡ first_of (refuses setup w count e) later_refusals
at_event setup w count e f r same is = is ∙ ap (λ x. first_of (refuses setup w count x) later_refusals) (sym same)

-- a call in a slot goes to a node of the setup
pub callee-within : (setup : Setup) (ms : List StoredNode) (i : ℕ) (s : StoredNode) → WorldInvariant setup (world_in ms) → node_state (world_in ms) i ≡ node_state_of s
    → IfSome s.slot.content (λ p. (0 < p.call.callee) × (p.call.callee ≤ length ms))
callee-within setup ms i s all here = by_slot s.slot.content (all_calls s.slot.content refl)
  where
    all_calls : (q : Option SlotCall) → s.slot.content ≡ q → SuitsPending setup i s.vector.vector s.point (option_map (pending_of s.generation) q)
    all_calls q e = grind (arith, here, e, (all.fits i).by_call)

    by_slot : (q : Option SlotCall) → SuitsPending setup i s.vector.vector s.point (option_map (pending_of s.generation) q) → IfSome q (λ p. (0 < p.call.callee) × (p.call.callee ≤ length ms))
    by_slot None h = tt
    by_slot (Some p) h = (h.to_node.0, omega (arith, h.to_node.1, all.count, world_in-length ms))

-- the first refusals, where there is room and the node is one of the setup's
pub cause-recover : (setup : Setup) (w : World) (count i : ℕ) → count < setup.events_max → IsNode setup i → cause setup w count (Event.Recover i) ≡ (if not (is_down_at w i) then Some Refused.IsUp else None)
cause-recover setup w count i room node = grind (arith, nat_tests, room, node)

pub cause-later : (setup : Setup) (w : World) (count : ℕ) (e : Event) → ((i : ℕ) → e ≡ Event.Recover i → ⊥) → count < setup.events_max → IsNode setup (node_of e)
    → cause setup w count e ≡ (if is_down_at w (node_of e) then Some Refused.IsDown else first_of (refuses setup w count e) later_refusals)
cause-later setup w count (Event.Recover i) other room node = absurd (other i refl)
cause-later setup w count e other room node = grind (arith, nat_tests, room, node)

-- a status that is Down, as a test
pub down-test : (w : World) (i : ℕ) (m : NodeState) (b : Bool) → node_state w i ≡ m → (b ≡ true → m.vector.status ≡ Down) → (m.vector.status ≡ Down → b ≡ true) → b ≡ is_down_at w i
down-test w i m b here to from = subst (λ (x : NodeState). b ≡ is_down x.vector.status) (sym here) (by_status m.vector.status b to from)
  where
    by_status : (s : Status) (b : Bool) → (b ≡ true → s ≡ Down) → (s ≡ Down → b ≡ true) → b ≡ is_down s
    by_status Down b to from = from refl
    by_status Election b to from = grind (arith, to)
    by_status Reorganization b to from = grind (arith, to)
    by_status Normal b to from = grind (arith, to)

-- a test that says whether a table is balanced is the definition's
pub balanced-test : (setup : Setup) (table members : List ℕ) (b : Bool) → (b ≡ true → IsBalanced setup table members) → (IsBalanced setup table members → b ≡ true) → b ≡ is_balanced setup table members
balanced-test setup table members b to from = by_test b (is_balanced setup table members) refl to from
  where
    by_test : (b t : Bool) → is_balanced setup table members ≡ t → (b ≡ true → IsBalanced setup table members) → (IsBalanced setup table members → b ≡ true) → b ≡ t
    by_test true true e to from = refl
    by_test false false e to from = refl
    by_test true false e to from = absurd (grind (arith, e, (is_balanced_decides setup table members).1 (to refl)))
    by_test false true e to from = from ((is_balanced_decides setup table members).0 e)
