-- The laws of a Check and of a Timeout: an idle node begins a procedure.
use Rattle.std.proofs.Common.{◌≡◌, ℕ, None, Some, arith, refl, not, if◌then◌else◌}
use Rattle.bully_base.specs.Setup.{Setup}
use Rattle.bully_calls.specs.declared.event.Event.{Event}
use Rattle.bully_calls.specs.declared.event.Refused.{Refused}
use Rattle.bully_world.specs.Cause.{refuses, first_of, later_refusals, is_idle}
use Rattle.bully_world.specs.World.{World, NodeState, node_state}
use Rattle.bully_world.proofs.EventLaws.{OwnLaws}
use Rattle.bully_world.proofs.KeptLemmas.{kept_with}
use Rattle.bully_world.proofs.NodeStateLemmas.{written_fits, node_of_up}
use Rattle.bully_world.proofs.QuietInvariant.{check_fits, timeout_fits}

pub check_laws : (setup : Setup) (i : ℕ) → OwnLaws setup (Event.Check i)
check_laws setup i = record {
  computed = λ w w' a. ((λ t. grind (arith, t)), (λ s. grind (arith, s)));
  free = λ w w' count a all room s. grind (arith, s, room, (all.fits i).a_node);
  fits = λ w w' a s all. rw s.2 (written_fits setup w i _ all (node_of_up setup w i all s.0) (check_fits setup i (node_state w i) (all.fits i) s.0 s.1));
  writes = λ w w' a s. (_, s.2);
  steps = λ w count m f. grind (arith, f.none, f.here);
  may = λ w count m f k. tt;
  kept = λ count m. kept_with setup count i m _ _ m.generation (omega arith) (omega arith);
  generation = λ w m. omega arith;
  tag = λ m stays. refl;
}

pub timeout_laws : (setup : Setup) (i : ℕ) → OwnLaws setup (Event.Timeout i)
timeout_laws setup i = record {
  computed = λ w w' a. ((λ t. grind (arith, t)), (λ s. grind (arith, s)));
  free = λ w w' count a all room s. grind (arith, s, room, (all.fits i).a_node);
  fits = λ w w' a s all. rw s.2 (written_fits setup w i _ all (node_of_up setup w i all s.0) (timeout_fits setup i (node_state w i) (all.fits i) s.0 s.1));
  writes = λ w w' a s. (_, s.2);
  steps = λ w count m f. grind (arith, f.none, f.here);
  may = λ w count m f k. tt;
  kept = λ count m. kept_with setup count i m _ _ m.generation (omega arith) (omega arith);
  generation = λ w m. omega arith;
  tag = λ m stays. refl;
}

-- why one is refused at a node that is up, read off its node state
pub check-cause : (setup : Setup) (w : World) (count i : ℕ) (m : NodeState) → node_state w i ≡ m → first_of (refuses setup w count (Event.Check i)) later_refusals ≡ (if not (is_idle m.point) then Some Refused.Busy else None)
check-cause setup w count i m here = grind (arith, here)

pub timeout-cause : (setup : Setup) (w : World) (count i : ℕ) (m : NodeState) → node_state w i ≡ m → first_of (refuses setup w count (Event.Timeout i)) later_refusals ≡ (if not (is_idle m.point) then Some Refused.Busy else None)
timeout-cause setup w count i m here = grind (arith, here)
