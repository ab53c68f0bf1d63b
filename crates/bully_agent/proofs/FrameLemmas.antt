-- A step leaves what is kept of every node but the one at which it takes place a part of the world.
use Rattle.std.proofs.Common.{◌≡◌, ◌≢◌, ℕ, ◌⊎◌, inl, inr, true, false, Some, refl, sym, ◌∙◌, ap, subst, arith, ◌==◌, option_map, if◌then◌else◌}
use Rattle.std.specs.Option.{option_map_or}
use Rattle.std.proofs.lemmas.Bool.Decides.{nat_tests}
use Rattle.std.proofs.lemmas.Option.{same_Some}
use Rattle.bully_base.specs.Setup.{Setup}
use Rattle.bully_calls.specs.declared.call.Answer.{Answer}
use Rattle.bully_calls.specs.declared.call.Phase.{Phase}
use Rattle.bully_calls.specs.Pending.{Pending, is_sent}
use Rattle.bully_calls.specs.Slot.{SlotCall, pending_of}
use Rattle.bully_calls.specs.declared.event.Event.{Event}
use Rattle.bully_handlers.specs.Handler.{reply}
use Rattle.bully_world.specs.Cause.{in_phase}
use Rattle.bully_world.specs.Place.{callee_or, place_of}
use Rattle.bully_world.specs.State.{StoredNode, node_state_of}
use Rattle.bully_world.specs.Step.{Step, IsUp, ran}
use Rattle.bully_world.specs.World.{World, NodeState, node_state, pending, vector}
use Rattle.bully_world.specs.NodeInvariant.{WorldInvariant}
use Rattle.bully_world.proofs.Events.{own_other}
use Rattle.bully_world.proofs.LawfulLemmas.{lawful_more}
use Rattle.bully_world.proofs.NodeInvariantLemmas.{step_fits}
use Rattle.bully_world.proofs.RunInvariant.{ran_here, ran_other}
use Rattle.bully_world.proofs.SlotLemmas.{call_in_slot, pending_there, phased_is}
use Rattle.bully_agent.specs.Laws.{GroupGoesOn, KeepsOthers, with_part}
use Rattle.bully_agent.specs.Part.{IsLike, IsPart, IsUnderWay}
use Rattle.bully_agent.proofs.ReturnLemmas.{sent_call}

-- A call that runs: its caller's reply is under way from then on.

not_sent : (x c : Pending) (a : Answer) → Some x ≡ Some c → x.phase ≡ Phase.Ran a → c.phase ≡ Phase.Sent → ⊥
not_sent x c a same ran sent = grind (arith, same, ran, sent)

module _ (setup : Setup) (w : World) (i : ℕ) (c : Pending) (all : WorldInvariant setup w) (is : pending w i ≡ Some c) (sent : c.phase ≡ Phase.Sent) (up : IsUp w c.call.callee) where
  abbrev f : Phase
  f = Phase.Ran (reply c.call.kind (vector w c.call.callee))

  -- the caller as it was, once its call ran
  caller_ran : (m : StoredNode) → node_state w i ≡ node_state_of m → IsUnderWay m (record (node_state w i) { pending = Some (record c { phase = f }) })
  caller_ran m here =
      let there = call_in_slot w i m here is_sent (ap (in_phase is_sent) is ∙ ap is_sent sent) in
      let same : c ≡ pending_of m.generation there.0 = same_Some c (pending_of m.generation there.0) (sym is ∙ pending_there w i m here there.0 there.1) in
      record {
        answer = reply c.call.kind (vector w c.call.callee);
        sent = ap (λ q. option_map_or (λ (x : SlotCall). is_sent x.phase) q false) there.1 ∙ there.2;
        ran =
            ap (λ (x : NodeState). record x { pending = Some (record c { phase = f }) }) here
            ∙ (ap (λ (x : Pending). record (node_state_of m) { pending = Some (record x { phase = f }) }) same ∙ sym (phased_is m there.0 f there.1));
      }

  caller_like : (m : StoredNode) → IsLike m (node_state w i) → IsLike m (record (node_state w i) { pending = Some (record c { phase = f }) })
  caller_like m (inl here) = inr (caller_ran m here)
  caller_like m (inr u) =
      let there = sent_call m.slot u.sent in
      let g = Phase.Ran u.answer in
      let stands : pending w i ≡ Some (record (pending_of m.generation there.0) { phase = g }) = ap (λ (x : NodeState). x.pending) (u.ran ∙ phased_is m there.0 g there.1) in
      absurd (not_sent (record (pending_of m.generation there.0) { phase = g }) c u.answer (sym stands ∙ is) refl sent)

  run_like : (k : ℕ) (m : StoredNode) → k ≢ c.call.callee → (k ≡ i) ⊎ (k ≢ i) → IsLike m (node_state w k) → IsLike m (node_state (ran w i c) k)
  run_like k m elsewhere (inl same) like =
      subst (λ j. IsLike m (node_state (ran w i c) j)) (sym same)
      (subst (IsLike m) (sym (ran_here setup w i c all is up)) (caller_like m (subst (λ j. IsLike m (node_state w j)) same like)))
  run_like k m elsewhere (inr other) like = subst (IsLike m) (sym (ran_other setup w i c all is up k other elsewhere)) like

step_like : (setup : Setup) (w w' : World) (e : Event) (a : Answer) (k : ℕ) (m : StoredNode) → WorldInvariant setup w → Step setup w e w' a → k ≢ place_of w e → IsLike m (node_state w k) → IsLike m (node_state w' k)
step_like setup w w' (Event.Run i) a k m all s d like =
    let elsewhere : k ≢ s.0.call.callee = λ same. d (same ∙ ap (λ q. callee_or i (option_map (λ (p : Pending). p.call) q)) (sym s.1)) in
    subst (λ v. IsLike m (node_state v k)) (sym s.4) (run_like setup w i s.0 all s.1 s.2 s.3 k m elsewhere (grind arith) like)
step_like setup w w' e a k m all s d like = subst (IsLike m) (sym (own_other setup w w' e a k (λ i same. absurd (cc same)) s d)) like

pub keeps_others : KeepsOthers
keeps_others setup w w' e a k m s d part = record { fits = step_fits setup w e w' a s part.fits; like = step_like setup w w' e a k m part.fits s d part.like }

-- a group goes on

part_then : (setup : Setup) (w : World) (kept : ℕ → StoredNode) (i k : ℕ) (next : StoredNode) → IsPart setup i next w → (k ≢ i → IsPart setup k (kept k) w) → (k ≡ i) ⊎ (k ≢ i) → IsPart setup k (with_part kept i next k) w
part_then setup w kept i k next here other (inl same) =
    let test : (k == i) ≡ true = grind (arith, nat_tests, same) in
    subst (λ b. IsPart setup k (if b then next else kept k) w) (sym test) (subst (λ j. IsPart setup j next w) (sym same) here)
part_then setup w kept i k next here other (inr d) =
    let test : (k == i) ≡ false = grind (arith, nat_tests, d) in
    subst (λ b. IsPart setup k (if b then next else kept k) w) (sym test) (other d)

pub group_goes_on_lem : GroupGoesOn
group_goes_on_lem setup events answers w w' kept i e a next lawful room parts step place here = (
  lawful_more setup events answers w e a w' lawful room step,
  λ k node. part_then setup w' kept i k next here (λ d. keeps_others setup w w' e a k (kept k) step (λ same. d (same ∙ place)) (parts k node)) (grind arith),
)
