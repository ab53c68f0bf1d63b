-- A request that runs at a node on its own.
use Rattle.std.proofs.Common.{◌≡◌, ◌≢◌, ℕ, ◌+◌, ◌<◌, ◌≤◌, inl, inr, List, Option, Some, None, refl, sym, ◌∙◌, ap, subst, arith}
use Rattle.bully_base.specs.declared.node.Status.TheVariants.{Down}
use Rattle.bully_base.specs.Setup.{Setup, IsNode}
use Rattle.bully_calls.specs.declared.call.Call.{Call}
use Rattle.bully_calls.specs.declared.call.CallKind.{CallKind}
use Rattle.bully_calls.specs.declared.call.CallKind.TheVariants.{AreYouUp, AreYouNormal, Halt, NewCoordinator, Ready}
use Rattle.bully_calls.specs.declared.call.Phase.{Phase}
use Rattle.bully_calls.specs.Pending.{Pending, is_sent}
use Rattle.bully_calls.specs.Slot.{SlotCall, CarriesFor, holds_call}
use Rattle.bully_handlers.specs.Handler.{callee_after, reply}
use Rattle.bully_handlers.specs.Vector.{Vector}
use Rattle.bully_calls.specs.declared.message.Request.{Request}
use Rattle.bully_calls.specs.declared.event.Event.{Event}
use Rattle.bully_calls.specs.declared.event.Refused.{Refused}
use Rattle.bully_world.specs.Cause.{cause}
use Rattle.bully_world.specs.NodeInvariant.{NodeInvariant, WorldInvariant, SuitsCallee, SuitsTable}
use Rattle.bully_world.specs.State.{StoredNode, node_state_of}
use Rattle.bully_world.specs.StateAfter.{callee_state_after, heard_state, phased_state, stopped_state_by, with_vector}
use Rattle.bully_world.specs.Step.{Step, IsUp, called, ran, stopped_by}
use Rattle.bully_world.specs.World.{World, node_state, pending, vector}
use Rattle.bully_world.proofs.CauseAt.{cause-later}
use Rattle.bully_world.proofs.Events.Running.{IsTagged, callee_after_is, callee_slot, kept_callee, phased_tagged, run-cause}
use Rattle.bully_world.proofs.NodeStateLemmas.{call_of_pending, node_of_pending}
use Rattle.bully_world.proofs.RunInvariant.{callee_fits_after, ran_there, run_fits}
use Rattle.bully_agent.specs.Agent.{IsAgentOf}
use Rattle.bully_agent.specs.Calls.{IsRequested, SuitsNode}
use Rattle.bully_agent.specs.Part.{IsLike, IsPart, FollowsAt, CauseAt}
use Rattle.bully_agent.proofs.PartLemmas.{like_vector}
use Rattle.bully_agent.proofs.RefusalLemmas.{full_cause}

-- the request as it lies in a slot
abbrev slot_call : Request → SlotCall
slot_call r = record { tag = record { caller = r.caller; generation = 0 }; call = r.call; phase = Phase.Sent; table = r.table }

-- a reply that is under way stays so at a callee
heard_ahead : (j : ℕ) (p : SlotCall) (f : Phase) (m : StoredNode) → callee_state_after j p (phased_state f m) ≡ phased_state f (callee_state_after j p m)
heard_ahead j p f m = by_kind p.call.kind (callee_after j p.call.kind p.table m.vector.vector)
  where
    by_kind : (kind : CallKind) (v : Vector) → stopped_state_by kind (with_vector v (phased_state f m)) ≡ phased_state f (stopped_state_by kind (with_vector v m))
    by_kind AreYouUp v = refl
    by_kind AreYouNormal v = refl
    by_kind Halt v = refl
    by_kind NewCoordinator v = refl
    by_kind Ready v = refl

module _ (setup : Setup) (i j : ℕ) (m : StoredNode) (p : SlotCall) (tagged : IsTagged m) (w : World) (part : IsPart setup i m w) (c : Pending) (is : pending w j ≡ Some c) (same : c.call ≡ p.call) (table : c.table ≡ p.table) (goes : p.call.callee ≡ i) where
  to_node : c.call.callee ≡ i
  to_node = ap (λ (k : Call). k.callee) same ∙ goes

  vectors : vector w c.call.callee ≡ m.vector.vector
  vectors = ap (vector w) to_node ∙ like_vector m (node_state w i) part.like

  callee_up : m.vector.vector.status ≢ Down → IsUp w c.call.callee
  callee_up up d = up (sym (ap (λ (v : Vector). v.status) vectors) ∙ d)

  answers : reply p.call.kind m.vector.vector ≡ reply c.call.kind (vector w c.call.callee)
  answers = ap (λ (k : Call). reply k.kind m.vector.vector) (sym same) ∙ ap (reply c.call.kind) (sym vectors)

  -- what the world's call makes of a node state is what the request makes of it
  called_is : (x : StoredNode) → IsTagged x → called j c (node_state_of x) ≡ node_state_of (callee_state_after j p x)
  called_is x t =
      ap (λ (k : Call). stopped_by k.kind (record (node_state_of x) { vector = callee_after j k.kind c.table x.vector.vector })) same
      ∙ ap (λ q. stopped_by p.call.kind (record (node_state_of x) { vector = callee_after j p.call.kind q x.vector.vector })) table
      ∙ sym (callee_after_is j p 0 x t)

  called_like : IsLike m (node_state w i) → IsLike (callee_state_after j p m) (called j c (node_state w i))
  called_like (inl here) = inl (ap (called j c) here ∙ called_is m tagged)
  called_like (inr u) =
      let f = Phase.Ran u.answer in
      inr (record {
        answer = u.answer;
        sent = ap (holds_call is_sent) (callee_slot j p m) ∙ u.sent;
        ran = ap (called j c) u.ran ∙ (called_is (phased_state f m) (phased_tagged m f tagged) ∙ ap node_state_of (heard_ahead j p f m));
      })

  run_here : m.vector.vector.status ≢ Down → node_state (ran w j c) i ≡ called j c (node_state w i)
  run_here up = subst (λ k. node_state (ran w j c) k ≡ called j c (node_state w k)) to_node (ran_there setup w j c part.fits is (callee_up up))

  run_follows : m.vector.vector.status ≢ Down → c.phase ≡ Phase.Sent → (w' : World) × Step setup w (Event.Run j) w' (reply p.call.kind m.vector.vector) × IsPart setup i (callee_state_after j p m) w'
  run_follows up sent = (
    ran w j c,
    (c, is, sent, callee_up up, refl, answers),
    record { fits = run_fits setup w j c part.fits is (callee_up up); like = subst (IsLike (callee_state_after j p m)) (sym (run_here up)) (called_like part.like) },
  )

pub serve_follows : (setup : Setup) (i count : ℕ) (m : StoredNode) (r : Request) → IsAgentOf setup i count m → m.vector.vector.status ≢ Down
    → FollowsAt (IsRequested i r) setup i m (Event.Run r.caller) (reply r.call.kind m.vector.vector) (heard_state r.caller r.call r.table m)
serve_follows setup i count m r is up w part q = run_follows setup i r.caller m (slot_call r) is.kept.tag w part q.call q.is q.same q.table q.goes up q.sent

pub serve_agent : (setup : Setup) (i count : ℕ) (m : StoredNode) (r : Request) → IsAgentOf setup i count m → m.vector.vector.status ≢ Down → IsNode setup r.caller → SuitsNode setup i r → IsAgentOf setup i (count + 1) (heard_state r.caller r.call r.table m)
serve_agent setup i count m r is up caller suits = record {
  is_node = is.is_node;
  fits = subst (NodeInvariant setup i) (sym (callee_after_is r.caller (slot_call r) 0 m is.kept.tag)) (callee_fits_after setup r.caller i r.call.kind r.table (node_state_of m) is.fits up caller suits.callee suits.table);
  kept = kept_callee setup count r.caller i (slot_call r) m is.kept;
}

-- a table that suits the setup fits in the node's room
pub serve_carries : (setup : Setup) (call : Call) (q : Option (List ℕ)) (room : ℕ) → room ≡ setup.partitions → SuitsTable setup call.kind q → CarriesFor call q room
serve_carries setup call None room e s = s
serve_carries setup call (Some table) room e s = (s.0, s.1 ∙ sym e)

-- why a request is refused

requested_suits : (setup : Setup) (i : ℕ) (r : Request) (w : World) → WorldInvariant setup w → IsRequested i r w → IsNode setup r.caller × SuitsNode setup i r
requested_suits setup i r w all q =
    let suits = call_of_pending setup w r.caller q.call all q.is in (
      (node_of_pending setup w r.caller q.call all q.is).0,
      record {
        goes = q.goes;
        callee = subst (SuitsCallee r.caller r.call.kind) q.goes (subst (λ (k : Call). SuitsCallee r.caller k.kind k.callee) q.same suits.callee);
        table = subst (SuitsTable setup r.call.kind) q.table (subst (λ (k : Call). SuitsTable setup k.kind q.call.table) q.same suits.table);
      },
    )

pub serve_full : (setup : Setup) (i count : ℕ) (m : StoredNode) (r : Request) → setup.events_max ≤ count → CauseAt (IsRequested i r) setup i count m (Event.Run r.caller) (Some Refused.Full)
serve_full setup i count m r full w part q = full_cause setup w count (Event.Run r.caller) full

pub serve_far : (setup : Setup) (i count : ℕ) (m : StoredNode) (r : Request) → setup.nodes < r.caller → CauseAt (IsRequested i r) setup i count m (Event.Run r.caller) (Some Refused.BadNode)
serve_far setup i count m r far w part q = absurd (omega (arith, far, (requested_suits setup i r w part.fits q).0.1))

pub serve_strange : (setup : Setup) (i count : ℕ) (m : StoredNode) (r : Request) → (SuitsNode setup i r → ⊥) → CauseAt (IsRequested i r) setup i count m (Event.Run r.caller) (Some Refused.NoCall)
serve_strange setup i count m r strange w part q = absurd (strange (requested_suits setup i r w part.fits q).1)

down_refuses : (setup : Setup) (w : World) (count j : ℕ) (c : Pending) → count < setup.events_max → WorldInvariant setup w → pending w j ≡ Some c → c.phase ≡ Phase.Sent → (vector w c.call.callee).status ≡ Down → cause setup w count (Event.Run j) ≡ Some Refused.CalleeDown
down_refuses setup w count j c room all is sent down =
    let node = node_of_pending setup w j c all is in
    let later = cause-later setup w count (Event.Run j) (λ k e. absurd (cc e)) room node.0 in
    let tests = run-cause setup w count j (node_state w j) refl in
    grind (arith, later, tests, node.1, is, sent, down)

pub serve_down : (setup : Setup) (i count : ℕ) (m : StoredNode) (r : Request) → count < setup.events_max → m.vector.vector.status ≡ Down → CauseAt (IsRequested i r) setup i count m (Event.Run r.caller) (Some Refused.CalleeDown)
serve_down setup i count m r room down w part q =
    let there : (vector w q.call.call.callee).status ≡ Down = ap (λ (v : Vector). v.status) (ap (vector w) (ap (λ (k : Call). k.callee) q.same ∙ q.goes) ∙ like_vector m (node_state w i) part.like) ∙ down in
    down_refuses setup w count r.caller q.call room part.fits q.is q.sent there
