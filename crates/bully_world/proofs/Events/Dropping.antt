-- The laws of a Drop: an orphan is taken out.
use Rattle.std.proofs.Common.{◌≡◌, ℕ, true, false, Option, None, Some, arith, refl, not, if◌then◌else◌}
use Rattle.std.proofs.lemmas.Bool.Decides.{nat_tests}
use Rattle.bully_base.specs.Setup.{Setup}
use Rattle.bully_calls.specs.declared.call.Answer.{Answer}
use Rattle.bully_calls.specs.Pending.{Pending}
use Rattle.bully_calls.specs.declared.event.Event.{Event}
use Rattle.bully_calls.specs.declared.event.Refused.{Refused}
use Rattle.bully_world.specs.Cause.{refuses, first_of, later_refusals, cause, is_pending, is_live_in}
use Rattle.bully_world.specs.State.{StoredNode, node_state_of}
use Rattle.bully_world.specs.StateAfter.{with_content}
use Rattle.bully_world.specs.Step.{Step}
use Rattle.bully_world.specs.World.{World, NodeState, node_state, pending, with_node_state}
use Rattle.bully_world.proofs.CallInvariant.{emptied_fits}
use Rattle.bully_world.proofs.EventLaws.{OwnLaws, IsFree}
use Rattle.bully_world.proofs.KeptLemmas.{kept_emptied}
use Rattle.bully_world.proofs.SlotLemmas.{slot_emptied}

drop_facts : (setup : Setup) (w : World) (count i : ℕ) → cause setup w count (Event.Drop i) ≡ None → (is_pending (pending w i) ≡ true) × (is_live_in (pending w i) ≡ false)
drop_facts setup w count i n = (grind (arith, n), grind (arith, n))

orphan_there : (q : Option Pending) → is_pending q ≡ true → is_live_in q ≡ false → (c : Pending) × (q ≡ Some c) × (c.is_live ≡ false)
orphan_there None there orphan = absurd (cc there)
orphan_there (Some c) there orphan = (c, refl, orphan)

drop_steps : (setup : Setup) (i : ℕ) (w : World) (count : ℕ) (m : StoredNode) → IsFree setup w count (Event.Drop i) m → Step setup w (Event.Drop i) (with_node_state w i (node_state_of (with_content None m))) Answer.Discarded
drop_steps setup i w count m f =
    let facts = drop_facts setup w count i f.none in
    let there = orphan_there (pending w i) facts.0 facts.1 in
    (there.0, there.1, there.2, slot_emptied w i m f.here, refl)

pub drop_laws : (setup : Setup) (i : ℕ) → OwnLaws setup (Event.Drop i)
drop_laws setup i = record {
  computed = λ w w' a. ((λ t. grind (arith, t)), (λ s. grind (arith, s)));
  free = λ w w' count a all room s. grind (arith, s, room, (all.fits i).a_node, (all.fits i).down_free);
  fits = λ w w' a s all. rw s.3 (emptied_fits setup w i s.0 all s.1);
  writes = λ w w' a s. (_, s.3);
  steps = drop_steps setup i;
  may = λ w count m f k. tt;
  kept = λ count m k. kept_emptied setup count i m k;
  generation = λ w m. omega arith;
  tag = λ m stays. absurd (grind (arith, nat_tests, stays));
}

-- why one is refused at a node that is up, read off its node state
pub drop-cause : (setup : Setup) (w : World) (count i : ℕ) (m : NodeState) → node_state w i ≡ m → first_of (refuses setup w count (Event.Drop i)) later_refusals
    ≡ (if not (is_pending m.pending) then Some Refused.NoCall else if is_live_in m.pending then Some Refused.NotOrphan else None)
drop-cause setup w count i m here = grind (arith, here)
