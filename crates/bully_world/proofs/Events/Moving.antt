-- The laws of a Move.
use Rattle.std.proofs.Common.{◌≡◌, ℕ, None, Some, arith, refl, ap, not, if◌then◌else◌}
use Rattle.bully_base.specs.Setup.{Setup}
use Rattle.bully_calls.specs.declared.call.Outcome.{Outcome}
use Rattle.bully_handlers.specs.Vector.{Vector}
use Rattle.bully_steps.specs.declared.point.Point.{Point}
use Rattle.bully_steps.specs.declared.point.Want.{Want}
use Rattle.bully_steps.specs.NextPoint.{next_point, next_vector}
use Rattle.bully_steps.specs.Point.{offered}
use Rattle.bully_calls.specs.declared.event.Event.{Event}
use Rattle.bully_calls.specs.declared.event.Refused.{Refused}
use Rattle.bully_world.specs.Cause.{refuses, first_of, later_refusals, cause, is_move, is_pending}
use Rattle.bully_world.specs.State.{StoredNode, node_state_of}
use Rattle.bully_world.specs.StateAfter.{proceeded_state, node_answer}
use Rattle.bully_world.specs.Step.{Step, IsUp, offer}
use Rattle.bully_world.specs.World.{World, NodeState, node_state, vector, point, pending, with_node_state}
use Rattle.bully_world.proofs.EventLaws.{OwnLaws, IsFree}
use Rattle.bully_world.proofs.KeptLemmas.{kept_proceeded}
use Rattle.bully_world.proofs.MoveInvariant.{has_point, proceeds_fits}

move_facts : (setup : Setup) (w : World) (count i : ℕ) → cause setup w count (Event.Move i) ≡ None → IsUp w i × (pending w i ≡ None) × (offer setup w i ≡ Want.Move)
move_facts setup w count i n = grind (arith, n)

-- a move that is offered leads somewhere
moves_on : (setup : Setup) (i : ℕ) (v : Vector) (p : Point) → offered setup v.coordinator p ≡ Want.Move → next_point setup i v.up p Outcome.Moved ≡ None → ⊥
moves_on setup i v p offers none = grind (arith, offers, none)

-- a node with no call pending goes on
proceeded_is : (setup : Setup) (i : ℕ) (o : Outcome) (m : StoredNode) (q : NodeState) (p : Point) → q ≡ node_state_of m → q.pending ≡ None → next_point setup i q.vector.up q.point o ≡ Some p → node_state_of (proceeded_state setup i o m) ≡ record { vector = next_vector i q.point o q.vector; point = p; pending = None }
proceeded_is setup i o m q p is free e = grind (arith, is, free, e)

move_steps : (setup : Setup) (i : ℕ) (w : World) (count : ℕ) (m : StoredNode) → IsFree setup w count (Event.Move i) m → Step setup w (Event.Move i) (with_node_state w i (node_state_of (proceeded_state setup i Outcome.Moved m))) (node_answer (Event.Move i) m)
move_steps setup i w count m f =
    let facts = move_facts setup w count i f.none in
    let next = has_point (next_point setup i (vector w i).up (point w i) Outcome.Moved) (moves_on setup i (vector w i) (point w i) facts.2) in
    (facts.0, facts.1, facts.2, (next.0, next.1, ap (with_node_state w i) (proceeded_is setup i Outcome.Moved m (node_state w i) next.0 f.here facts.1 next.1)), refl)

pub move_laws : (setup : Setup) (i : ℕ) → OwnLaws setup (Event.Move i)
move_laws setup i = record {
  computed = λ w w' a. ((λ t. grind (arith, t)), (λ s. grind (arith, s)));
  free = λ w w' count a all room s. grind (arith, s, room, (all.fits i).a_node);
  fits = λ w w' a s all. proceeds_fits setup w i Outcome.Moved w' all s.0 (λ e. grind (arith, e)) s.3;
  writes = λ w w' a s. (_, s.3.2);
  steps = move_steps setup i;
  may = λ w count m f k. tt;
  kept = λ count m. kept_proceeded setup count i Outcome.Moved m;
  generation = λ w m. omega arith;
  tag = λ m stays. refl;
}

-- why one is refused at a node that is up, read off its node state
pub move-cause : (setup : Setup) (w : World) (count i : ℕ) (m : NodeState) → node_state w i ≡ m → first_of (refuses setup w count (Event.Move i)) later_refusals
    ≡ (if not (is_move (offered setup m.vector.coordinator m.point)) then Some Refused.NoStep else if is_pending m.pending then Some Refused.SlotBusy else None)
move-cause setup w count i m here = grind (arith, here)
