-- Where the entries of a history stand in the parts of its actors, and that no actor is above the last node.
use Rattle.std.proofs.Common.{◌≡◌, ◌≤◌, ◌<◌, ◌+◌, ◌-◌, ◌==◌, ℕ, zero, suc, Bool, true, false, List, [], ◌∷◌, Some, map, length, arith, refl, sym, ap, ◌∙◌, slice_get, if◌then◌else◌}
use Rattle.std.proofs.lemmas.List.{length-map}
use Rattle.std.proofs.lemmas.Bool.Decides.{nat_tests}
use Rattle.bully_base.specs.Setup.{Setup, IsNode}
use Rattle.bully_calls.specs.declared.event.Event.{Event}
use Rattle.bully_calls.specs.Events.{node_of}
use Rattle.bully_world.specs.Lawful.{LeadTo}
use Rattle.bully_world.specs.NodeInvariant.{WorldInvariant}
use Rattle.bully_world.specs.Step.{Step}
use Rattle.bully_world.specs.World.{World, first_world}
use Rattle.bully_world.proofs.ApplyLemmas.{node_in_setup}
use Rattle.bully_world.proofs.CauseLemmas.{no_cause_if_step}
use Rattle.bully_world.proofs.OwnEvents.{IsNodesOwn}
use Rattle.bully_world.proofs.NodeInvariantLemmas.{first_fits, step_fits, call_of_pending}
use Rattle.bully_watch.specs.declared.entry.Entry.{Entry}
use Rattle.bully_watch.specs.History.{AreActors, IsHistory, whose, event_of, answer_of, part_from}

-- an entry that stands in an actor's part: it stands in the history at its index, and is that actor's
pub record Stands (at actor : ℕ) (entries : List Entry) (index : ℕ) (e : Entry) : Type 0 where
  pub after : at ≤ index
  pub there : slice_get entries (index - at) ≡ Some e
  pub own : e.actor ≡ actor

stands_later : (at actor : ℕ) (x : Entry) (entries : List Entry) (index : ℕ) (e : Entry) → Stands (at + 1) actor entries index e → Stands at actor (x ∷ entries) index e
stands_later at actor x entries index e s = record {
  after = omega (arith, s.after);
  there =
      let next : index - at ≡ suc (index - (at + 1)) = omega (arith, s.after) in
      rw next s.there;
  own = s.own;
}

stands_first : (at : ℕ) (x : Entry) (entries : List Entry) → Stands at x.actor (x ∷ entries) at x
stands_first at x entries = record {
  after = omega (arith);
  there = let none : at - at ≡ 0 = omega (arith) in rw none refl;
  own = refl;
}

pub part_stands : (at actor : ℕ) (entries : List Entry) (k index : ℕ) (e : Entry) → slice_get (part_from at actor entries) k ≡ Some (index, e) → Stands at actor entries index e
part_stands at actor [] k index e is = absurd (grind (arith, is))
part_stands at actor (x ∷ entries) k index e is = by_actor (x.actor == actor) refl (λ j h. part_stands (at + 1) actor entries j index e h) k is
  where
    Later : Type 0
    Later = (j : ℕ) → slice_get (part_from (at + 1) actor entries) j ≡ Some (index, e) → Stands (at + 1) actor entries index e

    by_place : (x.actor ≡ actor) → Later → (k : ℕ) → slice_get ((at, x) ∷ part_from (at + 1) actor entries) k ≡ Some (index, e) → Stands at actor (x ∷ entries) index e
    by_place own later zero is = grind (arith, is, own, stands_first at x entries)
    by_place own later (suc k) is = stands_later at actor x entries index e (later k is)

    by_actor : (b : Bool) → (x.actor == actor) ≡ b → Later → (k : ℕ) → slice_get (if b then (at, x) ∷ part_from (at + 1) actor entries else part_from (at + 1) actor entries) k ≡ Some (index, e) → Stands at actor (x ∷ entries) index e
    by_actor true own later k is = by_place (grind (arith, nat_tests, own)) later k is
    by_actor false own later k is = stands_later at actor x entries index e (later k is)

-- each entry stands in the part of its actor
pub part_has : (at : ℕ) (entries : List Entry) (j : ℕ) (e : Entry) → slice_get entries j ≡ Some e → (k : ℕ) × (slice_get (part_from at e.actor entries) k ≡ Some (at + j, e))
part_has at [] j e is = absurd (grind (arith, is))
part_has at (x ∷ entries) zero e is = grind (arith, nat_tests, is)
part_has at (x ∷ entries) (suc j) e is = by_actor (x.actor == e.actor) refl (part_has (at + 1) entries j e is)
  where
    by_actor : (b : Bool) → (x.actor == e.actor) ≡ b → (k : ℕ) × (slice_get (part_from (at + 1) e.actor entries) k ≡ Some (at + 1 + j, e)) → (k : ℕ) × (slice_get (if b then (at, x) ∷ part_from (at + 1) e.actor entries else part_from (at + 1) e.actor entries) k ≡ Some (at + suc j, e))
    by_actor true own rest = (suc rest.0, rest.1 ∙ ap (λ (i : ℕ). Some (i, e)) (omega arith))
    by_actor false own rest = (rest.0, rest.1 ∙ ap (λ (i : ℕ). Some (i, e)) (omega arith))

-- whose event it is that may be: the operator's, or a node's of the setup
whose_within : (setup : Setup) (w : World) (e : Event) (w' : World) (entry : Entry) → WorldInvariant setup w → 0 < setup.events_max → e ≡ entry.event → Step setup w e w' entry.answer → whose w e ≡ Some entry.actor → entry.actor ≤ setup.nodes
whose_within setup w e w' entry all room same s own = by_event e own (node_in_setup setup w 0 e (no_cause_if_step setup w 0 e w' entry.answer all room s))
  where
    by_run : (i : ℕ) → whose w (Event.Run i) ≡ Some entry.actor → entry.actor ≤ setup.nodes
    by_run i own = grind (arith, own, call_of_pending setup w i)

    by_event : (e : Event) → whose w e ≡ Some entry.actor → IsNode setup (node_of e) → entry.actor ≤ setup.nodes
    by_event (Event.Recover i) own node = grind (arith, own)
    by_event (Event.Crash i) own node = grind (arith, own)
    by_event (Event.Run i) own node = by_run i own
    by_event e own node = grind (arith, own, node)

-- whose an event is that is neither the operator's nor a Run
pub whose_other : (w : World) (e : Event) → ((i : ℕ) → e ≡ Event.Recover i → ⊥) → ((i : ℕ) → e ≡ Event.Crash i → ⊥) → ((i : ℕ) → e ≡ Event.Run i → ⊥) → whose w e ≡ Some (node_of e)
whose_other w (Event.Recover i) recover crash run = absurd (recover i refl)
whose_other w (Event.Crash i) recover crash run = absurd (crash i refl)
whose_other w (Event.Run i) recover crash run = absurd (run i refl)
whose_other w e recover crash run = refl

-- a node's own event is that node's
pub whose_own : (w : World) (i : ℕ) (e : Event) → IsNodesOwn i e → whose w e ≡ Some i
whose_own w i (Event.Recover k) own = elim own [ ]
whose_own w i (Event.Crash k) own = elim own [ ]
whose_own w i (Event.Run k) own = elim own [ ]
whose_own w i e own = ap Some own

actors_within : (setup : Setup) (w : World) (entries : List Entry) (w' : World) → WorldInvariant setup w → length entries ≤ setup.events_max → AreActors setup w entries → LeadTo setup w (map event_of entries) (map answer_of entries) w' → (k : ℕ) (e : Entry) → slice_get entries k ≡ Some e → e.actor ≤ setup.nodes
actors_within setup w [] w' all room actors lead k e is = absurd (grind (arith, is))
actors_within setup w (x ∷ entries) w' all room actors lead zero e is =
    let first : x.actor ≤ setup.nodes = whose_within setup w x.event lead.0 x all (omega (arith, room)) refl lead.1 actors.0 in
    grind (arith, is, first)
actors_within setup w (x ∷ entries) w' all room actors lead (suc k) e is =
    actors_within setup lead.0 entries w' (step_fits setup w x.event lead.0 x.answer lead.1 all) (omega (arith, room)) (actors.1 lead.0 lead.1) lead.2 k e is

-- no actor of a history is above the setup's last node
pub actor_within : (setup : Setup) (entries : List Entry) (w : World) (k : ℕ) (e : Entry) → IsHistory setup entries w → slice_get entries k ≡ Some e → e.actor ≤ setup.nodes
actor_within setup entries w k e history is =
    actors_within setup (first_world setup) entries w (first_fits setup) (rw (sym (length-map entries event_of)) history.lawful.bounded) history.actors history.lawful.leads k e is
