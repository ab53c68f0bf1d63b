-- The laws of a Recover.
use Rattle.std.proofs.Common.{ℕ, arith, refl}
use Rattle.std.proofs.lemmas.Bool.Decides.{nat_tests}
use Rattle.bully_base.specs.Setup.{Setup}
use Rattle.bully_calls.specs.declared.event.Event.{Event}
use Rattle.bully_world.specs.World.{node_state}
use Rattle.bully_world.proofs.EventLaws.{OwnLaws}
use Rattle.bully_world.proofs.KeptLemmas.{kept_with}
use Rattle.bully_world.proofs.NodeStateLemmas.{written_fits}
use Rattle.bully_world.proofs.QuietInvariant.{recover_fits}

pub recover_laws : (setup : Setup) (i : ℕ) → OwnLaws setup (Event.Recover i)
recover_laws setup i = record {
  computed = λ w w' a. ((λ t. grind (arith, nat_tests, t)), (λ s. grind (arith, nat_tests, s)));
  free = λ w w' count a all room s. grind (arith, s, room);
  fits = λ w w' a s all. rw s.2 (written_fits setup w i _ all s.0 (recover_fits setup i (node_state w i) (all.fits i) s.0 s.1));
  writes = λ w w' a s. (_, s.2);
  steps = λ w count m f. grind (arith, f.none, f.here);
  may = λ w count m f k. tt;
  kept = λ count m. kept_with setup count i m _ _ m.generation (omega arith) (omega arith);
  generation = λ w m. omega arith;
  tag = λ m stays. refl;
}
