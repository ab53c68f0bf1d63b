-- The laws of an event: what every event keeps, whatever it does. Those of one node's events are told of its state.
use Rattle.std.proofs.Common.{◌≡◌, ◌≢◌, ℕ, ◌+◌, ◌<◌, ◌≤◌, ◌^◌, Bool, true, false, List, length, Option, Some, None, refl, sym, ◌∙◌, ap, subst, arith, ◌↔◌, option_map, if◌then◌else◌}
use Rattle.bully_base.proofs.PlaceLemmas.{at_node_other, length-put_node}
use Rattle.bully_base.specs.Setup.{Setup, IsNode}
use Rattle.bully_calls.specs.declared.call.Answer.{Answer}
use Rattle.bully_calls.specs.Pending.{Pending}
use Rattle.bully_calls.specs.Slot.{SlotCall, pending_of}
use Rattle.bully_calls.specs.declared.event.Event.{Event}
use Rattle.bully_calls.specs.Events.{node_of}
use Rattle.bully_world.specs.Cause.{cause}
use Rattle.bully_world.specs.NodeInvariant.{WorldInvariant, NodeInvariant}
use Rattle.bully_world.specs.State.{StoredNode, empty_state, kept_of, node_state_of, world_in, IsKept, AllKept, raises, changes_slot, tag_in}
use Rattle.bully_world.specs.StateAfter.{state_after, node_after, answer_after, node_answer, MayApply, CanApply}
use Rattle.bully_world.specs.Step.{Step}
use Rattle.bully_world.specs.StepOf.{step_of}
use Rattle.bully_world.specs.Waiting.{sent_in}
use Rattle.bully_world.specs.World.{World, NodeState, node_state, with_node_state}
use Rattle.bully_world.proofs.ApplyLemmas.{node_in_setup}
use Rattle.bully_world.proofs.KeptLemmas.{all_later, put_kept}
use Rattle.bully_world.proofs.WorldIn.{node_state-world_in, world_in-put_node, world_in-length}
use Rattle.bully_world.proofs.OwnEvents.{IsOwn}
use Rattle.bully_world.proofs.WriteLemmas.{raised, put_keeps_if, put_raised}

-- in w the event's node stands for what is kept of it, and nothing refuses the event
pub record IsFree (setup : Setup) (w : World) (count : ℕ) (e : Event) (m : StoredNode) : Type 0 where
  pub all : WorldInvariant setup w
  pub here : node_state w (node_of e) ≡ node_state_of m
  pub none : cause setup w count e ≡ None

-- The laws of an event of one node. Of the definitions: its step is computed, nothing refuses it where it is possible,
-- it keeps what holds of each node, and it writes its own node and no other. Of what is kept of its node: where nothing refuses it, what it makes of that is the
-- step, and the node state may take it; it keeps what goes with the setup and the count of events, raises the generation as
-- the definitions say, and leaves the tag of a slot that it neither fills nor empties.
pub record OwnLaws (setup : Setup) (e : Event) : Type 0 where
  pub computed : (w w' : World) (a : Answer) → (step_of setup w e ≡ Some (w', a)) ↔ Step setup w e w' a
  pub free : (w w' : World) (count : ℕ) (a : Answer) → WorldInvariant setup w → count < setup.events_max → Step setup w e w' a → cause setup w count e ≡ None
  pub fits : (w w' : World) (a : Answer) → Step setup w e w' a → WorldInvariant setup w → WorldInvariant setup w'
  pub writes : (w w' : World) (a : Answer) → Step setup w e w' a → (m : NodeState) × (w' ≡ with_node_state w (node_of e) m)
  pub steps : (w : World) (count : ℕ) (m : StoredNode) → IsFree setup w count e m → Step setup w e (with_node_state w (node_of e) (node_state_of (node_after setup e m))) (node_answer e m)
  pub may : (w : World) (count : ℕ) (m : StoredNode) → IsFree setup w count e m → IsKept setup count (node_of e) m → MayApply setup e m
  pub kept : (count : ℕ) (m : StoredNode) → IsKept setup count (node_of e) m → IsKept setup (count + 1) (node_of e) (node_after setup e m)
  pub generation : (w : World) (m : StoredNode) → (node_after setup e m).generation ≡ m.generation + raised (raises w e (node_of e))
  pub tag : (m : StoredNode) → changes_slot e (node_of e) ≡ false → tag_in (node_after setup e m) ≡ tag_in m

-- what is kept of the nodes is that of a world, with so many events applied
pub record IsKeptWorld (setup : Setup) (count : ℕ) (ms : List StoredNode) : Type 0 where
  pub all : WorldInvariant setup (world_in ms)
  pub kept : AllKept setup count ms

-- The laws of each event: the same, of what is kept of all nodes. It is possible where nothing refuses it, and changes
-- neither how many nodes there are nor to whom another node's call is sent.
pub record EventLaws (setup : Setup) (e : Event) : Type 0 where
  pub computed : (w w' : World) (a : Answer) → (step_of setup w e ≡ Some (w', a)) ↔ Step setup w e w' a
  pub free : (w w' : World) (count : ℕ) (a : Answer) → WorldInvariant setup w → count < setup.events_max → Step setup w e w' a → cause setup w count e ≡ None
  pub possible : (w : World) (count : ℕ) → WorldInvariant setup w → cause setup w count e ≡ None → (w' : World) × (a : Answer) × Step setup w e w' a
  pub fits : (w w' : World) (a : Answer) → Step setup w e w' a → WorldInvariant setup w → WorldInvariant setup w'
  pub steps : (count : ℕ) (ms : List StoredNode) → IsKeptWorld setup count ms → cause setup (world_in ms) count e ≡ None → Step setup (world_in ms) e (world_in (state_after setup ms e)) (answer_after ms e)
  pub can : (count : ℕ) (ms : List StoredNode) → IsKeptWorld setup count ms → count + 1 < 2 ^ 32 → cause setup (world_in ms) count e ≡ None → CanApply setup ms e
  pub many : (ms : List StoredNode) → length (state_after setup ms e) ≡ length ms
  pub kept : (count : ℕ) (ms : List StoredNode) → AllKept setup count ms → AllKept setup (count + 1) (state_after setup ms e)
  pub generations : (count : ℕ) (ms : List StoredNode) → IsKeptWorld setup count ms → cause setup (world_in ms) count e ≡ None → (j : ℕ) → (kept_of (state_after setup ms e) j).generation ≡ (kept_of ms j).generation + raised (raises (world_in ms) e j)
  pub tags : (ms : List StoredNode) (j : ℕ) → changes_slot e j ≡ false → tag_in (kept_of (state_after setup ms e) j) ≡ tag_in (kept_of ms j)
  pub sent : (ms : List StoredNode) (j : ℕ) → j ≢ node_of e → sent_in (kept_of (state_after setup ms e) j) ≡ sent_in (kept_of ms j)

-- The laws of one node's event lead to those of each event.

-- what may be kept of a node with this node state
abbrev called_as : Pending → SlotCall
called_as c = record { tag = record { caller = 0; generation = if c.is_live then 1 else 0 }; call = c.call; phase = c.phase; table = c.table }

abbrev kept_as : NodeState → StoredNode
kept_as m = record {
  vector = record { vector = m.vector; room = 0 };
  point = m.point;
  slot = record { content = option_map called_as m.pending; room = 0 };
  generation = 1;
}

kept_as_is : (m : NodeState) → m ≡ node_state_of (kept_as m)
kept_as_is m = ap (λ q. record m { pending = q }) (pending_is m.pending)
  where
    by_live : (c : Pending) (b : Bool) → c.is_live ≡ b → c ≡ pending_of 1 (called_as c)
    by_live c true e = grind (arith, e)
    by_live c false e = grind (arith, e)

    pending_is : (q : Option Pending) → q ≡ option_map (pending_of 1) (option_map called_as q)
    pending_is None = refl
    pending_is (Some c) = ap Some (by_live c c.is_live refl)

module _ (setup : Setup) (e : Event) (own : IsOwn setup e) (laws : OwnLaws setup e) where
  abbrev i : ℕ
  i = node_of e

  abbrev next : List StoredNode → StoredNode
  next ms = node_after setup e (kept_of ms i)

  is_free : (count : ℕ) (ms : List StoredNode) → IsKeptWorld setup count ms → cause setup (world_in ms) count e ≡ None → IsFree setup (world_in ms) count e (kept_of ms i)
  is_free count ms is none = record { all = is.all; here = node_state-world_in ms i; none = none }

  node_here : (count : ℕ) (ms : List StoredNode) → IsKeptWorld setup count ms → cause setup (world_in ms) count e ≡ None → IsNode setup i × (i ≤ length ms)
  node_here count ms is none =
      let node = node_in_setup setup (world_in ms) count e none in
      (node, omega (arith, world_in-length ms, is.all.count, node.1))

  own_possible : (w : World) (count : ℕ) → WorldInvariant setup w → cause setup w count e ≡ None → (w' : World) × (a : Answer) × Step setup w e w' a
  own_possible w count all none = (_, _, laws.steps w count (kept_as (node_state w i)) (record { all = all; here = kept_as_is (node_state w i); none = none }))

  own_steps : (count : ℕ) (ms : List StoredNode) → IsKeptWorld setup count ms → cause setup (world_in ms) count e ≡ None → Step setup (world_in ms) e (world_in (state_after setup ms e)) (answer_after ms e)
  own_steps count ms is none =
      let world : world_in (state_after setup ms e) ≡ with_node_state (world_in ms) i (node_state_of (next ms)) = ap world_in (own.after ms) ∙ world_in-put_node ms i (next ms) in
      subst (λ w. Step setup (world_in ms) e w (answer_after ms e)) (sym world)
      (subst (λ a. Step setup (world_in ms) e (with_node_state (world_in ms) i (node_state_of (next ms))) a) (sym (own.answer ms)) (laws.steps (world_in ms) count (kept_of ms i) (is_free count ms is none)))

  own_can : (count : ℕ) (ms : List StoredNode) → IsKeptWorld setup count ms → count + 1 < 2 ^ 32 → cause setup (world_in ms) count e ≡ None → CanApply setup ms e
  own_can count ms is room none =
      let there = node_here count ms is none in
      let here = is.kept i there.0 in
      let fits : NodeInvariant setup i (node_state_of (kept_of ms i)) = subst (NodeInvariant setup i) (node_state-world_in ms i) (is.all.fits i) in
      (own.can ms).1 (there.1, record { at = fits.is_point; room = omega (arith, here.generation, room); may = laws.may (world_in ms) count (kept_of ms i) (is_free count ms is none) here })

  own_kept : (count : ℕ) (ms : List StoredNode) → AllKept setup count ms → AllKept setup (count + 1) (state_after setup ms e)
  own_kept count ms kept = subst (AllKept setup (count + 1)) (sym (own.after ms)) (put_kept setup (count + 1) ms i (next ms) (all_later setup count ms kept) (λ node. laws.kept count (kept_of ms i) (kept i node)))

  own_generations : (count : ℕ) (ms : List StoredNode) → IsKeptWorld setup count ms → cause setup (world_in ms) count e ≡ None → (j : ℕ)
      → (kept_of (state_after setup ms e) j).generation ≡ (kept_of ms j).generation + raised (raises (world_in ms) e j)
  own_generations count ms is none j =
      let there = node_here count ms is none in
      ap (λ xs. (kept_of xs j).generation) (own.after ms)
      ∙ put_raised ms i j (next ms) (raises (world_in ms) e i) there.0.0 there.1 (laws.generation (world_in ms) (kept_of ms i))
      ∙ ap (λ b. (kept_of ms j).generation + raised b) (sym (own.raises_own (world_in ms) j))

  own_tags : (ms : List StoredNode) (j : ℕ) → changes_slot e j ≡ false → tag_in (kept_of (state_after setup ms e) j) ≡ tag_in (kept_of ms j)
  own_tags ms j stays = ap (λ xs. tag_in (kept_of xs j)) (own.after ms) ∙ put_keeps_if tag_in ms i j (next ms) (λ same. laws.tag (kept_of ms i) (subst (λ k. changes_slot e k ≡ false) same stays))

  own_sent : (ms : List StoredNode) (j : ℕ) → j ≢ i → sent_in (kept_of (state_after setup ms e) j) ≡ sent_in (kept_of ms j)
  own_sent ms j other = ap (λ xs. sent_in (kept_of xs j)) (own.after ms) ∙ ap sent_in (at_node_other (empty_state 0) ms i j (next ms) other)

  pub of_own : EventLaws setup e
  of_own = record {
    computed = laws.computed;
    free = laws.free;
    possible = own_possible;
    fits = laws.fits;
    steps = own_steps;
    can = own_can;
    many = λ ms. ap length (own.after ms) ∙ length-put_node ms i (next ms);
    kept = own_kept;
    generations = own_generations;
    tags = own_tags;
    sent = own_sent;
  }
