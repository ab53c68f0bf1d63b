-- The laws of a Plan.
use Rattle.std.proofs.Common.{◌≡◌, ◌∙◌, ℕ, true, List, length, None, Some, arith, refl, sym, not, ◌==◌, ◌&&◌, if◌then◌else◌}
use Rattle.std.proofs.lemmas.Bool.{and_parts}
use Rattle.std.proofs.lemmas.Bool.Decides.{nat_tests}
use Rattle.bully_base.specs.NodeSet.{with_node}
use Rattle.bully_base.specs.Setup.{Setup}
use Rattle.bully_table.specs.Balance.{IsBalanced, is_balanced}
use Rattle.bully_table.proofs.BalanceLemmas.{is_balanced_decides}
use Rattle.bully_steps.specs.declared.point.Point.TheVariants.{Planning}
use Rattle.bully_steps.specs.Point.{offered}
use Rattle.bully_calls.specs.declared.event.Event.{Event}
use Rattle.bully_calls.specs.declared.event.Refused.{Refused}
use Rattle.bully_world.specs.Cause.{refuses, first_of, later_refusals, cause, is_plan, is_pending}
use Rattle.bully_world.specs.State.{StoredNode, node_state_of}
use Rattle.bully_world.specs.StateAfter.{planned_state, node_answer}
use Rattle.bully_world.specs.Step.{Step}
use Rattle.bully_world.specs.StepOf.{is_plannable}
use Rattle.bully_world.specs.World.{World, NodeState, node_state, vector, point, pending, with_node_state}
use Rattle.bully_world.proofs.EventLaws.{OwnLaws, IsFree}
use Rattle.bully_world.proofs.KeptLemmas.{kept_with}
use Rattle.bully_world.proofs.NodeStateLemmas.{written_fits, node_of_up}
use Rattle.bully_world.proofs.MoveInvariant.{plan_fits, planning_up}

plan_facts : (setup : Setup) (w : World) (count i : ℕ) (table : List ℕ) → cause setup w count (Event.Plan i table) ≡ None
    → (point w i ≡ Planning) × (pending w i ≡ None) × (length table ≡ setup.partitions) × (is_balanced setup table (with_node i (vector w i).up) ≡ true)
plan_facts setup w count i table n = (grind (arith, n), grind (arith, n), grind (arith, n, nat_tests), grind (arith, n))

plannable_by : (setup : Setup) (table : List ℕ) (i : ℕ) (up : List ℕ) → is_plannable setup table i up ≡ true → (length table ≡ setup.partitions) × IsBalanced setup table (with_node i up)
plannable_by setup table i up e =
    let parts = and_parts (length table == setup.partitions) (is_balanced setup table (with_node i up)) e in
    (same (length table) setup.partitions parts.0, (is_balanced_decides setup table (with_node i up)).0 parts.1)
  where
    same : (m n : ℕ) → m == n ≡ true → m ≡ n
    same m n e = grind (arith, nat_tests)

plannable_if : (setup : Setup) (table : List ℕ) (i : ℕ) (up : List ℕ) → length table ≡ setup.partitions → IsBalanced setup table (with_node i up) → is_plannable setup table i up ≡ true
plannable_if setup table i up size balanced = grind (arith, nat_tests, size, (is_balanced_decides setup table (with_node i up)).1 balanced)

plan_steps : (setup : Setup) (i : ℕ) (table : List ℕ) (w : World) (count : ℕ) (m : StoredNode) → IsFree setup w count (Event.Plan i table) m → Step setup w (Event.Plan i table) (with_node_state w i (node_state_of (planned_state table m))) (node_answer (Event.Plan i table) m)
plan_steps setup i table w count m f =
    let facts = plan_facts setup w count i table f.none in
    (facts.0, facts.1, facts.2, (is_balanced_decides setup table (with_node i (vector w i).up)).0 facts.3, grind (arith, facts.1, f.here), refl)

pub plan_laws : (setup : Setup) (i : ℕ) (table : List ℕ) → OwnLaws setup (Event.Plan i table)
plan_laws setup i table = record {
  computed = λ w w' a. ((λ t. grind (arith, t, plannable_by setup table i (vector w i).up)), (λ s. grind (arith, s, plannable_if setup table i (vector w i).up s.2 s.3)));
  free = λ w w' count a all room s. grind (arith, s, room, (all.fits i).a_node, (all.fits i).down_idle, (is_balanced_decides setup table (with_node i (vector w i).up)).1);
  fits = λ w w' a s all. rw s.4 (written_fits setup w i _ all (node_of_up setup w i all (planning_up setup i (node_state w i) (all.fits i) s.0)) (plan_fits setup i (node_state w i) table (all.fits i) s.0 s.2));
  writes = λ w w' a s. (_, s.4);
  steps = plan_steps setup i table;
  may = λ w count m f k. (plan_facts setup w count i table f.none).2 ∙ sym k.vector_room;
  kept = λ count m. kept_with setup count i m _ _ m.generation (omega arith) (omega arith);
  generation = λ w m. omega arith;
  tag = λ m stays. refl;
}

-- why one is refused at a node that is up, read off its node state
pub plan-cause : (setup : Setup) (w : World) (count i : ℕ) (m : NodeState) (table : List ℕ) → node_state w i ≡ m → first_of (refuses setup w count (Event.Plan i table)) later_refusals
    ≡ (if not (is_plan (offered setup m.vector.coordinator m.point)) then Some Refused.NoStep
    else if is_pending m.pending then Some Refused.SlotBusy
    else if not ((length table == setup.partitions) && is_balanced setup table (with_node i m.vector.up)) then Some Refused.BadTable else None)
plan-cause setup w count i m table here = grind (arith, here)
