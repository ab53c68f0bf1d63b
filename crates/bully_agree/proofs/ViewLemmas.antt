-- The view of a world shows what the world has, so it agrees.
use Rattle.std.proofs.Common.{◌≡◌, ℕ, zero, suc, List, [], ◌∷◌, map, length, arith, refl, sym, ap, ◌∙◌, slice_index_or}
use Rattle.std.proofs.lemmas.List.{length-map}
use Rattle.bully_base.specs.Setup.{Setup}
use Rattle.bully_calls.specs.declared.call.Answer.{Answer}
use Rattle.bully_world.proofs.NodeInvariantLemmas.{lawful_fits}
use Rattle.bully_calls.specs.declared.event.Event.{Event}
use Rattle.bully_world.specs.Lawful.{IsLawful}
use Rattle.bully_world.specs.State.{WorldState, IsReached, node_state_of, world_of}
use Rattle.bully_world.specs.World.{NodeState, World, empty_node_state, node_state}
use Rattle.bully_agree.specs.Agreement.{Agreement}
use Rattle.bully_agree.specs.View.{IsView, ViewAgrees, nothing_shown, shown, shown_of, view_of}
use Rattle.bully_agree.proofs.Law.{agreement_lem}

index-shown : (ms : List NodeState) (k : ℕ) → slice_index_or (map shown_of ms) k nothing_shown ≡ shown_of (slice_index_or ms k empty_node_state)
index-shown [] k = refl
index-shown (m ∷ ms) zero = refl
index-shown (m ∷ ms) (suc k) = index-shown ms k

-- of each number a view shows what the world has
pub shown_there : (setup : Setup) (count : ℕ) (w : World) (i : ℕ) → shown (view_of setup count w) i ≡ shown_of (node_state w i)
shown_there setup count w zero = refl
shown_there setup count w (suc k) = index-shown w.states k

pub agrees_of : (setup : Setup) (count : ℕ) (w : World) → Agreement w → ViewAgrees (view_of setup count w)
agrees_of setup count w agreed = record {
  has_coordinator = λ i t. grind (arith, there i, t, agreed.has_coordinator i);
  same_coordinator = λ i j t u. grind (arith, there i, there j, t, u, agreed.same_coordinator i j);
  has_task = λ i t. grind (arith, there i, t, agreed.has_task i);
  same_task = λ i j t u. grind (arith, there i, there j, t, u, agreed.same_task i j);
}
  where
    there : (i : ℕ) → shown (view_of setup count w) i ≡ shown_of (node_state w i)
    there = shown_there setup count w

-- of a world that a lawful list leads to
pub lawful_agrees : (setup : Setup) (count : ℕ) (events : List Event) (answers : List Answer) (w : World) → IsLawful setup events answers w → ViewAgrees (view_of setup count w)
lawful_agrees setup count events answers w lawful = agrees_of setup count w (agreement_lem setup events answers w lawful)

-- as many nodes are shown as the setup has
pub count_of_reached : (w : WorldState) → IsReached w → length w.states ≡ w.setup.nodes
count_of_reached w reached = sym (length-map w.states node_state_of) ∙ (lawful_fits w.setup reached.applied reached.answers (world_of w) reached.lawful).count

pub view_keeps : (w : WorldState) → IsReached w → IsView (view_of w.setup w.events (world_of w))
view_keeps w reached = record {
  count = length-map (world_of w).states shown_of ∙ length-map w.states node_state_of ∙ count_of_reached w reached;
  agrees = lawful_agrees w.setup w.events reached.applied reached.answers (world_of w) reached.lawful;
  viewed = record { events = reached.applied; answers = reached.answers; world = world_of w; lawful = reached.lawful; view = ap (λ n. view_of w.setup n (world_of w)) (sym reached.counted) };
}
