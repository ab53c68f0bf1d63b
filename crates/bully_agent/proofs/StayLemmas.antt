-- A call that ran stays so, whatever others do.
use Rattle.std.proofs.Common.{◌≡◌, ◌≢◌, ℕ, ◌⊎◌, inl, inr, false, Some, sym, ap, subst, arith, option_map}
use Rattle.bully_base.specs.Setup.{Setup}
use Rattle.bully_calls.specs.declared.call.Answer.{Answer}
use Rattle.bully_calls.specs.declared.call.CallKind.{CallKind}
use Rattle.bully_calls.specs.declared.call.CallKind.TheVariants.{AreYouUp, AreYouNormal, Halt, NewCoordinator, Ready}
use Rattle.bully_calls.specs.Pending.{Pending, orphan_of}
use Rattle.bully_handlers.specs.Handler.{callee_after}
use Rattle.bully_handlers.specs.Vector.{Vector}
use Rattle.bully_calls.specs.declared.event.Event.{Event}
use Rattle.bully_calls.specs.Events.{node_of}
use Rattle.bully_world.specs.NodeInvariant.{WorldInvariant}
use Rattle.bully_world.specs.Step.{Step, IsUp, called, ran, stopped_by}
use Rattle.bully_world.specs.World.{World, NodeState, node_state, pending}
use Rattle.bully_world.proofs.Events.{own_other}
use Rattle.bully_world.proofs.RunInvariant.{ran_other, ran_there}
use Rattle.bully_agent.specs.Calls.{HasRun}
use Rattle.bully_agent.specs.Laws.{RunsStay, ends_call}
use Rattle.bully_agent.proofs.EventLemmas.{Ran, here, own_stays}

stays : (i : ℕ) (answer : Answer) (w w' : World) → HasRun i answer w → (Ran answer (node_state w i) → Ran answer (node_state w' i)) → HasRun i answer w'
stays i answer w w' h more =
    let next = more (record { call = h.call; is = h.is; phase = h.ran }) in
    record { call = next.call; is = next.is; ran = next.phase }

-- a call that comes to the node makes an orphan of its own one, at most
heard_ran : (j : ℕ) (c : Pending) (answer : Answer) (x : NodeState) → Ran answer x → Ran answer (called j c x)
heard_ran j c answer x r = by_kind c.call.kind (callee_after j c.call.kind c.table x.vector)
  where
    by_kind : (kind : CallKind) (v : Vector) → Ran answer (stopped_by kind (record x { vector = v }))
    by_kind AreYouUp v = record { call = r.call; is = r.is; phase = r.phase }
    by_kind AreYouNormal v = record { call = r.call; is = r.is; phase = r.phase }
    by_kind Halt v = record { call = orphan_of r.call; is = ap (option_map orphan_of) r.is; phase = r.phase }
    by_kind NewCoordinator v = record { call = r.call; is = r.is; phase = r.phase }
    by_kind Ready v = record { call = r.call; is = r.is; phase = r.phase }

module _ (setup : Setup) (w : World) (i : ℕ) (answer : Answer) (all : WorldInvariant setup w) (h : HasRun i answer w) where
  -- another call runs
  other_ran : (j : ℕ) (c : Pending) → pending w j ≡ Some c → IsUp w c.call.callee → i ≢ j → (i ≡ c.call.callee) ⊎ (i ≢ c.call.callee) → Ran answer (node_state (ran w j c) i)
  other_ran j c is up d (inl same) =
      subst (λ k. Ran answer (node_state (ran w j c) k)) (sym same)
      (subst (Ran answer) (sym (ran_there setup w j c all is up)) (heard_ran j c answer (node_state w c.call.callee) (subst (λ k. Ran answer (node_state w k)) same (here setup w i answer all h))))
  other_ran j c is up d (inr e) = subst (Ran answer) (sym (ran_other setup w j c all is up i d e)) (here setup w i answer all h)

other_stays : (setup : Setup) (w w' : World) (e : Event) (a : Answer) (i : ℕ) (answer : Answer) → WorldInvariant setup w → Step setup w e w' a → i ≢ node_of e → HasRun i answer w → Ran answer (node_state w' i)
other_stays setup w w' (Event.Run j) a i answer all s d h = subst (λ (v : World). Ran answer (node_state v i)) (sym s.4) (other_ran setup w i answer all h j s.0 s.1 s.3 d (grind arith))
other_stays setup w w' e a i answer all s d h = subst (Ran answer) (sym (own_other setup w w' e a i (λ k same. absurd (cc same)) s d)) (here setup w i answer all h)

by_node : (setup : Setup) (w w' : World) (e : Event) (a : Answer) (i : ℕ) (answer : Answer) → WorldInvariant setup w → Step setup w e w' a → ends_call e i ≡ false → HasRun i answer w → (i ≡ node_of e) ⊎ (i ≢ node_of e) → Ran answer (node_state w' i)
by_node setup w w' e a i answer all s ends h (inl same) =
    subst (λ k. Ran answer (node_state w' k)) (sym same) (own_stays setup w w' e a answer all s (subst (λ k. ends_call e k ≡ false) same ends) (subst (λ k. HasRun k answer w) same h))
by_node setup w w' e a i answer all s ends h (inr d) = other_stays setup w w' e a i answer all s d h

pub runs_stay_lem : RunsStay
runs_stay_lem setup w w' e a i answer all s ends h = stays i answer w w' h (λ r. by_node setup w w' e a i answer all s ends h (grind arith))
