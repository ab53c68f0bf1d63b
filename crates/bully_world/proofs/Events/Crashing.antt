-- The laws of a Crash.
use Rattle.std.proofs.Common.{◌+◌, ℕ, None, arith}
use Rattle.std.proofs.lemmas.Bool.Decides.{nat_tests}
use Rattle.bully_base.specs.Setup.{Setup}
use Rattle.bully_calls.specs.declared.event.Event.{Event}
use Rattle.bully_world.specs.StateAfter.{with_content}
use Rattle.bully_world.specs.World.{node_state}
use Rattle.bully_world.proofs.EventLaws.{OwnLaws}
use Rattle.bully_world.proofs.KeptLemmas.{kept_with, kept_empty}
use Rattle.bully_world.proofs.NodeStateLemmas.{written_fits, node_of_up}
use Rattle.bully_world.proofs.QuietInvariant.{crash_fits}

pub crash_laws : (setup : Setup) (i : ℕ) → OwnLaws setup (Event.Crash i)
crash_laws setup i = record {
  computed = λ w w' a. ((λ t. grind (arith, t)), (λ s. grind (arith, s)));
  free = λ w w' count a all room s. grind (arith, s, room, (all.fits i).a_node);
  fits = λ w w' a s all. rw s.1 (written_fits setup w i _ all (node_of_up setup w i all s.0) (crash_fits setup i (node_state w i) (all.fits i)));
  writes = λ w w' a s. (_, s.1);
  steps = λ w count m f. grind (arith, f.none, f.here);
  may = λ w count m f k. tt;
  kept = λ count m k. kept_with setup count i (with_content None m) _ _ (m.generation + 1) (omega arith) (omega arith) (kept_empty setup count i m k);
  generation = λ w m. grind (arith, nat_tests);
  tag = λ m stays. absurd (grind (arith, nat_tests, stays));
}
