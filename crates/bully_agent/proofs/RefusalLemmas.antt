-- Why an event that a node takes by itself is refused is read off what is kept of the node, also while a reply is under way.
use Rattle.std.proofs.Common.{◌≡◌, ℕ, ◌<◌, ◌≤◌, inl, inr, Bool, true, Option, Some, None, refl, sym, ◌∙◌, ap, arith, option_map, if◌then◌else◌}
use Rattle.std.proofs.lemmas.Bool.Decides.{nat_tests}
use Rattle.bully_base.specs.declared.node.Status.TheVariants.{Down}
use Rattle.bully_base.specs.Setup.{Setup, IsNode}
use Rattle.bully_calls.specs.declared.call.Phase.{Phase}
use Rattle.bully_calls.specs.Slot.{SlotCall, pending_of, phased}
use Rattle.bully_handlers.specs.Vector.{Vector}
use Rattle.bully_calls.specs.declared.event.Event.{Event}
use Rattle.bully_calls.specs.declared.event.Refused.{Refused}
use Rattle.bully_calls.specs.Events.{kind_of, node_of}
use Rattle.bully_world.specs.Cause.{cause, refuses, first_of, later_refusals, is_pending, is_live_in, is_down_at}
use Rattle.bully_world.specs.State.{StoredNode, node_state_of}
use Rattle.bully_world.specs.StateAfter.{phased_state}
use Rattle.bully_world.specs.World.{World, node_state, vector}
use Rattle.bully_world.proofs.CauseAt.{cause-recover, cause-later, down-test}
use Rattle.bully_agent.specs.Agent.{IsAlone}
use Rattle.bully_agent.specs.Part.{IsLike, IsPart}
use Rattle.bully_agent.proofs.PartLemmas.{alone, alone_here, like_vector}
use Rattle.bully_agent.proofs.EventLemmas.{IsReadAlike, same_refusals}

-- no event is taken behind the bound
pub full_cause : (setup : Setup) (w : World) (count : ℕ) (e : Event) → setup.events_max ≤ count → cause setup w count e ≡ Some Refused.Full
full_cause setup w count e full = grind (arith, nat_tests, full)

ahead_alike : (m : StoredNode) (f : Phase) → IsReadAlike (node_state_of (phased_state f m)) (node_state_of m)
ahead_alike m f = record { vector = refl; point = refl; pending = same_pending m.slot.content; live = same_live m.slot.content }
  where
    same_pending : (q : Option SlotCall) → is_pending (option_map (pending_of m.generation) (option_map (phased f) q)) ≡ is_pending (option_map (pending_of m.generation) q)
    same_pending None = refl
    same_pending (Some p) = refl

    same_live : (q : Option SlotCall) → is_live_in (option_map (pending_of m.generation) (option_map (phased f) q)) ≡ is_live_in (option_map (pending_of m.generation) q)
    same_live None = refl
    same_live (Some p) = refl

module _ (setup : Setup) (e : Event) (count : ℕ) (m : StoredNode) (node : IsNode setup (node_of e)) (room : count < setup.events_max) where
  abbrev i : ℕ
  i = node_of e

  -- whether the node is Down, as a test that was made of what is kept
  down_there : (w : World) (b : Bool) → IsPart setup i m w → (b ≡ true → m.vector.vector.status ≡ Down) → (m.vector.vector.status ≡ Down → b ≡ true) → b ≡ is_down_at w i
  down_there w b part to from =
      let same : (vector w i).status ≡ m.vector.vector.status = ap (λ (v : Vector). v.status) (like_vector m (node_state w i) part.like) in
      down-test w i (node_state w i) b refl (λ t. same ∙ to t) (λ d. from (sym same ∙ d))

  -- the later refusals in a world where a reply may be under way
  later_there : (w : World) (r : Option Refused) → IsAlone (kind_of e) → IsLike m (node_state w i) → ((v : World) (n : ℕ) → node_state v i ≡ node_state_of m → r ≡ first_of (refuses setup v n e) later_refusals) → first_of (refuses setup w count e) later_refusals ≡ r
  later_there w r own (inl here) told = sym (told w count here)
  later_there w r own (inr u) told =
      let here = alone_here setup i m node in
      same_refusals setup w (alone setup i m) count e (node_state_of (phased_state (Phase.Ran u.answer) m)) (node_state_of m) own u.ran here (ahead_alike m (Phase.Ran u.answer)) ∙ sym (told (alone setup i m) count here)

  pub later_cause_at : (w : World) (b : Bool) (r : Option Refused) → IsAlone (kind_of e) → ((k : ℕ) → e ≡ Event.Recover k → ⊥) → IsPart setup i m w → (b ≡ true → m.vector.vector.status ≡ Down) → (m.vector.vector.status ≡ Down → b ≡ true)
      → ((v : World) (n : ℕ) → node_state v i ≡ node_state_of m → r ≡ first_of (refuses setup v n e) later_refusals) → cause setup w count e ≡ (if b then Some Refused.IsDown else r)
  later_cause_at w b r own other part to from told =
      cause-later setup w count e other room node
      ∙ ap (λ t. if t then Some Refused.IsDown else first_of (refuses setup w count e) later_refusals) (sym (down_there w b part to from))
      ∙ ap (λ q. if b then Some Refused.IsDown else q) (later_there w r own part.like told)

  pub down_cause_at : (w : World) (b : Bool) → ((k : ℕ) → e ≡ Event.Recover k → ⊥) → IsPart setup i m w → (b ≡ true → m.vector.vector.status ≡ Down) → (m.vector.vector.status ≡ Down → b ≡ true) → b ≡ true → cause setup w count e ≡ Some Refused.IsDown
  down_cause_at w b other part to from down =
      cause-later setup w count e other room node
      ∙ ap (λ t. if t then Some Refused.IsDown else first_of (refuses setup w count e) later_refusals) (sym (down_there w b part to from) ∙ down)

pub recover_cause_at : (setup : Setup) (i count : ℕ) (m : StoredNode) (w : World) (b : Bool) → IsNode setup i → count < setup.events_max → IsPart setup i m w → (b ≡ true → m.vector.vector.status ≡ Down) → (m.vector.vector.status ≡ Down → b ≡ true)
    → cause setup w count (Event.Recover i) ≡ (if b then None else Some Refused.IsUp)
recover_cause_at setup i count m w b node room part to from =
    let down = down_there setup (Event.Recover i) count m node room w b part to from in
    grind (arith, cause-recover setup w count i room node, down)
