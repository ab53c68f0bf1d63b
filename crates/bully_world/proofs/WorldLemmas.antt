-- What every world keeps, from the first one on.
use Rattle.std.proofs.Common.{◌≡◌, ℕ, zero, suc, ◌+◌, ◌≤◌, List, [], ◌∷◌, ◌++◌, Option, Some, None, refl, sym, ◌∙◌, ap, arith, length, take, drop, length-append, replicate, slice_index_or}
use Rattle.std.proofs.lemmas.Grind.{common_steps}
use Rattle.bully_base.proofs.PlaceLemmas.{at_node-place}
use Rattle.bully_base.specs.Setup.{Setup}
use Rattle.bully_calls.specs.declared.event.Event.{Event}
use Rattle.bully_world.specs.Cause.{cause}
use Rattle.bully_world.specs.NodeInvariant.{WorldInvariant}
use Rattle.bully_world.specs.State.{StoredNode, WorldState, empty_state, state_at, IsWorld, IsReached, world_in, first_state, new_states}
use Rattle.bully_world.specs.Step.{Step}
use Rattle.bully_world.specs.StateAfter.{state_after, answer_after}
use Rattle.bully_world.specs.World.{first_world}
use Rattle.bully_world.proofs.Events.{event_laws}
use Rattle.bully_world.proofs.KeptLemmas.{new_kept}
use Rattle.bully_world.proofs.LawfulLemmas.{lawful_more}
use Rattle.bully_world.proofs.WorldIn.{world_in-new}
use Rattle.bully_world.proofs.NodeInvariantLemmas.{lawful_fits}
use Rattle.bully_world.proofs.ApplyLemmas.{room_of}

abbrev state : Setup → ℕ → List StoredNode → WorldState
state setup events ms = record { setup = setup; events = events; states = ms }

pub world_fits : (setup : Setup) (events : ℕ) (ms : List StoredNode) → IsWorld (state setup events ms) → WorldInvariant setup (world_in ms)
world_fits setup events ms is = lawful_fits setup is.reached.applied is.reached.answers (world_in ms) is.reached.lawful

pub world_steps : (setup : Setup) (events : ℕ) (ms : List StoredNode) (e : Event) → IsWorld (state setup events ms) → cause setup (world_in ms) events e ≡ None → Step setup (world_in ms) e (world_in (state_after setup ms e)) (answer_after ms e)
world_steps setup events ms e is free = (event_laws setup e).steps events ms (record { all = world_fits setup events ms is; kept = is.kept }) free

reached_next : (setup : Setup) (events : ℕ) (ms : List StoredNode) (e : Event) → IsWorld (state setup events ms) → cause setup (world_in ms) events e ≡ None → IsReached (state setup (events + 1) (state_after setup ms e))
reached_next setup events ms e is free = record {
  applied = is.reached.applied ++ e ∷ [];
  answers = is.reached.answers ++ answer_after ms e ∷ [];
  lawful = lawful_more setup is.reached.applied is.reached.answers (world_in ms) e (answer_after ms e) (world_in (state_after setup ms e)) is.reached.lawful
      (omega (arith, is.reached.counted, room_of setup (world_in ms) events e free)) (world_steps setup events ms e is free);
  counted = omega (arith, is.reached.counted, length-append is.reached.applied (e ∷ []));
}

-- what stands at a node's place is what is kept of it
pub node_state_there : (w : WorldState) (k i : ℕ) (m : StoredNode) → IsWorld w → k + 1 ≡ i → i ≤ w.setup.nodes → m ≡ slice_index_or w.states k m → state_at w i ≡ m
node_state_there w k i m is e l there = at_node-place (empty_state 0) m w.states k i e (omega (arith, is.count, e, l)) ∙ sym there

-- an event that nothing refuses leads from a world to a world
pub next_world : (setup : Setup) (events : ℕ) (ms : List StoredNode) (e : Event) → IsWorld (state setup events ms) → cause setup (world_in ms) events e ≡ None → IsWorld (state setup (events + 1) (state_after setup ms e))
next_world setup events ms e is free = record {
  count = (event_laws setup e).many ms ∙ is.count;
  kept = (event_laws setup e).kept events ms is.kept;
  reached = reached_next setup events ms e is free;
}

length-replicate : (n : ℕ) (m : StoredNode) → length (replicate n m) ≡ n
length-replicate zero m = refl
length-replicate (suc n) m = ap suc (length-replicate n m)

-- the first world is one, and is that of the definitions
pub first_is : (setup : Setup) → world_in (new_states setup) ≡ first_world setup
first_is setup = world_in-new setup.nodes setup.partitions

pub first_keeps : (setup : Setup) → IsWorld (first_state setup)
first_keeps setup = record {
  count = length-replicate setup.nodes _;
  kept = new_kept setup;
  reached = record { applied = []; answers = []; lawful = record { leads = first_is setup; bounded = omega arith }; counted = refl };
}

-- a whole list, put back into the memory that it was lent from
pub put_back : (len : ℕ) (xs ys : List StoredNode) → length xs ≡ len → length ys ≡ len → take len (xs ++ drop (length xs) ys) ≡ xs
put_back len xs ys e f = grind (arith, common_steps, e, f)

pub none_from : {A : Type 0} (q : Option A) → ((x : A) → q ≡ Some x → ⊥) → q ≡ None
none_from None n = refl
none_from (Some x) n = absurd (n x refl)
