-- A reply that comes back to its caller, and a call that fails: the call comes to its last phase, and returns.
use Rattle.std.proofs.Common.{◌≡◌, ℕ, ◌+◌, ◌<◌, ◌⊎◌, inl, inr, true, false, Option, Some, None, refl, sym, ◌∙◌, ap, subst, arith, not, option_map, option_and_then, IfSome, IsSome}
use Rattle.std.specs.Option.{option_map_or}
use Rattle.bully_base.specs.declared.node.Status.TheVariants.{Down}
use Rattle.bully_base.specs.Setup.{Setup}
use Rattle.bully_calls.specs.declared.call.Answer.{Answer}
use Rattle.bully_calls.specs.declared.call.CallKind.{CallKind}
use Rattle.bully_calls.specs.declared.call.Phase.{Phase}
use Rattle.bully_calls.specs.Pending.{Pending, is_sent, is_failed, outcome_of}
use Rattle.bully_calls.specs.Slot.{Slot, SlotCall, pending_of, phased, holds_call, outcome_in}
use Rattle.bully_calls.specs.declared.event.Event.{Event}
use Rattle.bully_world.specs.Cause.{cause}
use Rattle.bully_world.specs.NodeInvariant.{WorldInvariant, SuitsPhase}
use Rattle.bully_world.specs.State.{StoredNode, node_state_of}
use Rattle.bully_world.specs.StateAfter.{phased_state, with_content}
use Rattle.bully_world.specs.Step.{Step}
use Rattle.bully_world.specs.World.{World, NodeState, node_state, pending, vector}
use Rattle.bully_world.proofs.CauseAt.{cause-later}
use Rattle.bully_world.proofs.Events.Losing.{lose-cause}
use Rattle.bully_world.proofs.Events.Returning.{return-cause}
use Rattle.bully_world.proofs.Events.Running.{sent_is}
use Rattle.bully_world.proofs.KeptLemmas.{kept_later}
use Rattle.bully_world.proofs.NodeStateLemmas.{node_of_pending}
use Rattle.bully_world.proofs.OwnEvents.{IsNoRun}
use Rattle.bully_world.proofs.SlotLemmas.{phased_is}
use Rattle.bully_agent.specs.Agent.{IsAgentOf}
use Rattle.bully_agent.specs.Calls.{CanReturn, HasRun, CalleeIsDown, returned_by, returned_answer}
use Rattle.bully_agent.specs.Part.{IsLike, IsPart, Always, FollowsAt}
use Rattle.bully_agent.proofs.PartLemmas.{alone, alone_here, alone_part, exact_follows, exact_agent, phased_agent}

return_no_run : (i : ℕ) → IsNoRun (Event.Return i)
return_no_run i k e = absurd (cc e)

lose_no_run : (i : ℕ) → IsNoRun (Event.Lose i)
lose_no_run i k e = absurd (cc e)

-- the call in a slot that holds a sent one
pub sent_call : (s : Slot) → holds_call is_sent s ≡ true → (p : SlotCall) × (s.content ≡ Some p) × (p.phase ≡ Phase.Sent)
sent_call s t = by_content s.content t
  where
    by_content : (q : Option SlotCall) → option_map_or (λ p. is_sent p.phase) q false ≡ true → (p : SlotCall) × (q ≡ Some p) × (p.phase ≡ Phase.Sent)
    by_content None t = absurd (cc t)
    by_content (Some p) t = (p, refl, sent_is p.phase t)

-- nothing refuses the return of a call that ran or failed
return_free : (setup : Setup) (w : World) (count i : ℕ) (c : Pending) → count < setup.events_max → WorldInvariant setup w → pending w i ≡ Some c → is_sent c.phase ≡ false → cause setup w count (Event.Return i) ≡ None
return_free setup w count i c room all is came =
    let node = node_of_pending setup w i c all is in
    let later = cause-later setup w count (Event.Return i) (λ k e. absurd (cc e)) room node.0 in
    let tests = return-cause setup w count i (node_state w i) refl in
    grind (arith, later, tests, node.1, is, came)

-- nor the loss of one whose callee is Down
lose_free : (setup : Setup) (w : World) (count i : ℕ) (c : Pending) → count < setup.events_max → WorldInvariant setup w → pending w i ≡ Some c → is_failed c.phase ≡ false → (vector w c.call.callee).status ≡ Down → cause setup w count (Event.Lose i) ≡ None
lose_free setup w count i c room all is unfailed down =
    let node = node_of_pending setup w i c all is in
    let later = cause-later setup w count (Event.Lose i) (λ k e. absurd (cc e)) room node.0 in
    let tests = lose-cause setup w count i (node_state w i) refl in
    grind (arith, later, tests, node.1, is, unfailed, down)

-- a phase that follows another is as if it came alone
phased_twice : (f g : Phase) (m : StoredNode) → phased_state f (phased_state g m) ≡ phased_state f m
phased_twice f g m = ap (λ q. with_content q m) (twice m.slot.content)
  where
    twice : (q : Option SlotCall) → option_map (phased f) (option_map (phased g) q) ≡ option_map (phased f) q
    twice None = refl
    twice (Some p) = refl

-- the call of node i comes to the phase f, and returns
module _ (setup : Setup) (i : ℕ) (m : StoredNode) (p : SlotCall) (f : Phase) (content : m.slot.content ≡ Some p) (came : is_sent f ≡ false) where
  -- the call as it then is
  abbrev c : Pending
  c = record (pending_of m.generation p) { phase = f }

  stands : (w : World) → node_state w i ≡ node_state_of (phased_state f m) → pending w i ≡ Some c
  stands w here = ap (λ (x : NodeState). x.pending) (here ∙ phased_is m p f content)

  settles : (w : World) (count : ℕ) → count < setup.events_max → WorldInvariant setup w → node_state w i ≡ node_state_of (phased_state f m) → (w' : World) × Step setup w (Event.Return i) w' (returned_answer i f m) × IsPart setup i (returned_by setup i f m) w'
  settles w count room all here =
      let next = exact_follows setup (Event.Return i) w count (phased_state f m) (return_no_run i) (record { all = all; here = here; none = return_free setup w count i c room all (stands w here) came }) in
      (next.0, next.1, record { fits = next.2; like = inl next.3 })

  pub settled_agent : (count : ℕ) → count < setup.events_max → IsAgentOf setup i count m → SuitsPhase p.call.kind f → IsAgentOf setup i (count + 1) (returned_by setup i f m)
  settled_agent count room is suits =
      let phased = phased_agent setup i count m p f is content suits in
      let part = alone_part setup i (phased_state f m) phased.is_node phased.fits in
      let w = alone setup i (phased_state f m) in
      exact_agent setup (Event.Return i) count (phased_state f m) (return_no_run i) phased (return_free setup w count i c room part.fits (stands w (alone_here setup i (phased_state f m) phased.is_node)) came)

  pub phased_outcome : IsSome (outcome_of f) → IsSome (outcome_in (phased_state f m).slot)
  phased_outcome some = subst (λ q. IsSome (option_and_then (λ (x : SlotCall). outcome_of x.phase) (option_map (phased f) q))) (sym content) some

-- A reply.

not_ran : (x c : Pending) (a : Answer) → Some x ≡ Some c → x.phase ≡ Phase.Sent → c.phase ≡ Phase.Ran a → ⊥
not_ran x c a same sent ran = grind (arith, same, sent, ran)

ran_same : (x c : Pending) (a b : Answer) → Some x ≡ Some c → x.phase ≡ Phase.Ran b → c.phase ≡ Phase.Ran a → b ≡ a
ran_same x c a b same rb ra = grind (arith, same, rb, ra)

reply_by : (setup : Setup) (i count : ℕ) (m : StoredNode) (p : SlotCall) (a : Answer) (w : World) → m.slot.content ≡ Some p → p.phase ≡ Phase.Sent → count < setup.events_max → WorldInvariant setup w → HasRun i a w → IsLike m (node_state w i)
    → (w' : World) × Step setup w (Event.Return i) w' (returned_answer i (Phase.Ran a) m) × IsPart setup i (returned_by setup i (Phase.Ran a) m) w'
reply_by setup i count m p a w content sent room all q (inl here) =
    let there : pending w i ≡ Some (pending_of m.generation p) = ap (λ (x : NodeState). x.pending) here ∙ ap (option_map (pending_of m.generation)) content in
    absurd (not_ran (pending_of m.generation p) q.call a (sym there ∙ q.is) sent q.ran)
reply_by setup i count m p a w content sent room all q (inr u) =
    let c : Pending = record (pending_of m.generation p) { phase = Phase.Ran u.answer } in
    let there : pending w i ≡ Some c = stands setup i m p (Phase.Ran u.answer) content refl w u.ran in
    let same = ran_same c q.call a u.answer (sym there ∙ q.is) refl q.ran in
    settles setup i m p (Phase.Ran a) content refl w count room all (u.ran ∙ ap (λ x. node_state_of (phased_state (Phase.Ran x) m)) same)

pub reply_follows : (setup : Setup) (i count : ℕ) (m : StoredNode) (a : Answer) → count < setup.events_max → CanReturn m.slot a → FollowsAt (HasRun i a) setup i m (Event.Return i) (returned_answer i (Phase.Ran a) m) (returned_by setup i (Phase.Ran a) m)
reply_follows setup i count m a room can w part q =
    let there = sent_call m.slot can.sent in
    reply_by setup i count m there.0 a w there.1 there.2 room part.fits q part.like

-- what a call that can be answered so is
suits_reply : (s : Slot) (a : Answer) (p : SlotCall) → CanReturn s a → s.content ≡ Some p → SuitsPhase p.call.kind (Phase.Ran a)
suits_reply s a p can content = subst (λ q. IfSome q (λ x. SuitsPhase x.call.kind (Phase.Ran a))) content can.answered

some_outcome : (kind : CallKind) (a : Answer) → SuitsPhase kind (Phase.Ran a) → IsSome (outcome_of (Phase.Ran a))
some_outcome kind Answer.Yes s = refl
some_outcome kind Answer.No s = refl
some_outcome kind Answer.Done s = elim s [ ]
some_outcome kind Answer.Failed s = elim s [ ]
some_outcome kind Answer.Discarded s = elim s [ ]

yes_or_no : (kind : CallKind) (a : Answer) → SuitsPhase kind (Phase.Ran a) → (a ≡ Answer.Yes) ⊎ (a ≡ Answer.No)
yes_or_no kind Answer.Yes s = inl refl
yes_or_no kind Answer.No s = inr refl
yes_or_no kind Answer.Done s = elim s [ ]
yes_or_no kind Answer.Failed s = elim s [ ]
yes_or_no kind Answer.Discarded s = elim s [ ]

pub reply_agent : (setup : Setup) (i count : ℕ) (m : StoredNode) (a : Answer) → count < setup.events_max → IsAgentOf setup i count m → CanReturn m.slot a → IsAgentOf setup i (count + 1) (returned_by setup i (Phase.Ran a) m)
reply_agent setup i count m a room is can =
    let there = sent_call m.slot can.sent in
    settled_agent setup i m there.0 (Phase.Ran a) there.1 refl count room is (suits_reply m.slot a there.0 can there.1)

pub reply_outcome : (setup : Setup) (i : ℕ) (m : StoredNode) (a : Answer) → CanReturn m.slot a → IsSome (outcome_in (phased_state (Phase.Ran a) m).slot)
reply_outcome setup i m a can =
    let there = sent_call m.slot can.sent in
    phased_outcome setup i m there.0 (Phase.Ran a) there.1 refl (some_outcome there.0.call.kind a (suits_reply m.slot a there.0 can there.1))

pub reply_answers : (s : Slot) (a : Answer) → CanReturn s a → (a ≡ Answer.Yes) ⊎ (a ≡ Answer.No)
reply_answers s a can =
    let there = sent_call s can.sent in
    yes_or_no there.0.call.kind a (suits_reply s a there.0 can there.1)

-- A failure.

lost_by : (setup : Setup) (i count : ℕ) (m : StoredNode) (p : SlotCall) (w : World) → m.slot.content ≡ Some p → p.phase ≡ Phase.Sent → count < setup.events_max → WorldInvariant setup w → (vector w p.call.callee).status ≡ Down → IsLike m (node_state w i)
    → (mid : World) × Step setup w (Event.Lose i) mid Answer.Done × WorldInvariant setup mid × (node_state mid i ≡ node_state_of (phased_state Phase.Failed m))
lost_by setup i count m p w content sent room all down (inl here) =
    let c = pending_of m.generation p in
    let there : pending w i ≡ Some c = ap (λ (x : NodeState). x.pending) here ∙ ap (option_map (pending_of m.generation)) content in
    let unfailed : is_failed p.phase ≡ false = ap is_failed sent in
    exact_follows setup (Event.Lose i) w count m (lose_no_run i) (record { all = all; here = here; none = lose_free setup w count i c room all there unfailed down })
lost_by setup i count m p w content sent room all down (inr u) =
    let f = Phase.Ran u.answer in
    let c : Pending = record (pending_of m.generation p) { phase = f } in
    let there : pending w i ≡ Some c = stands setup i m p f content refl w u.ran in
    let next = exact_follows setup (Event.Lose i) w count (phased_state f m) (lose_no_run i) (record { all = all; here = u.ran; none = lose_free setup w count i c room all there refl down }) in
    (next.0, next.1, next.2, next.3 ∙ ap node_state_of (phased_twice Phase.Failed f m))

pub failure_loses : (setup : Setup) (i count : ℕ) (m : StoredNode) → count < setup.events_max → holds_call is_sent m.slot ≡ true
    → FollowsAt (CalleeIsDown m.slot) setup i m (Event.Lose i) Answer.Done (phased_state Phase.Failed m)
failure_loses setup i count m room sent w part down =
    let there = sent_call m.slot sent in
    let callee : (vector w there.0.call.callee).status ≡ Down = subst (λ q. IfSome q (λ (x : SlotCall). (vector w x.call.callee).status ≡ Down)) there.1 down in
    let lost = lost_by setup i count m there.0 w there.1 there.2 room part.fits callee part.like in
    (lost.0, lost.1, record { fits = lost.2; like = inl lost.3 })

-- a call that failed has no reply under way
lost_like : (m : StoredNode) (p : SlotCall) (x : NodeState) → m.slot.content ≡ Some p → IsLike (phased_state Phase.Failed m) x → x ≡ node_state_of (phased_state Phase.Failed m)
lost_like m p x content (inl here) = here
lost_like m p x content (inr u) =
    absurd (not_both (ap (λ q. option_map_or (λ (y : SlotCall). is_sent y.phase) (option_map (phased Phase.Failed) q) false) (sym content) ∙ u.sent))
  where
    not_both : false ≡ true → ⊥
    not_both e = cc e

pub failure_returns : (setup : Setup) (i count : ℕ) (m : StoredNode) → count < setup.events_max → holds_call is_sent m.slot ≡ true
    → FollowsAt Always setup i (phased_state Phase.Failed m) (Event.Return i) (returned_answer i Phase.Failed m) (returned_by setup i Phase.Failed m)
failure_returns setup i count m room sent w part met =
    let there = sent_call m.slot sent in
    settles setup i m there.0 Phase.Failed there.1 refl w count room part.fits (lost_like m there.0 (node_state w i) there.1 part.like)

pub failure_agent : (setup : Setup) (i count : ℕ) (m : StoredNode) → count + 1 < setup.events_max → IsAgentOf setup i count m → holds_call is_sent m.slot ≡ true → IsAgentOf setup i (count + 2) (returned_by setup i Phase.Failed m)
failure_agent setup i count m room is sent =
    let there = sent_call m.slot sent in
    let later : IsAgentOf setup i (count + 1) m = record { is_node = is.is_node; fits = is.fits; kept = kept_later setup count i m is.kept } in
    let two : count + 1 + 1 ≡ count + 2 = omega arith in
    subst (λ n. IsAgentOf setup i n (returned_by setup i Phase.Failed m)) two (settled_agent setup i m there.0 Phase.Failed there.1 refl (count + 1) room later tt)

pub failure_outcome : (setup : Setup) (i : ℕ) (m : StoredNode) → holds_call is_sent m.slot ≡ true → IsSome (outcome_in (phased_state Phase.Failed m).slot)
failure_outcome setup i m sent =
    let there = sent_call m.slot sent in
    phased_outcome setup i m there.0 Phase.Failed there.1 refl refl

-- what was sent didn't fail
pub failure_unfailed : (s : Slot) → holds_call is_sent s ≡ true → holds_call (λ f. not (is_failed f)) s ≡ true
failure_unfailed s sent = by_content s.content sent
  where
    by_content : (q : Option SlotCall) → option_map_or (λ p. is_sent p.phase) q false ≡ true → option_map_or (λ p. not (is_failed p.phase)) q false ≡ true
    by_content None t = absurd (cc t)
    by_content (Some p) t = ap (λ f. not (is_failed f)) (sent_is p.phase t)
