-- What each event needs of a node on its own, case by case: what it leaves of a call that ran, what its refusals read, and what becomes
-- of a reply that is under way.
use Rattle.std.proofs.Common.{None, Some, ap, arith, false, inl, inr, refl, true, ℕ, ◌∙◌, ◌≡◌, ◌==◌}
use Rattle.std.proofs.lemmas.Bool.Decides.{nat_tests}
use Rattle.bully_agent.specs.Agent.{IsAlone}
use Rattle.bully_agent.specs.Calls.{HasRun}
use Rattle.bully_agent.specs.Laws.{ends_call}
use Rattle.bully_agent.specs.Part.{IsLike}
use Rattle.bully_base.specs.Setup.{IsNode, Setup}
use Rattle.bully_calls.specs.Events.{kind_of, node_of}
use Rattle.bully_calls.specs.Pending.{Pending, is_sent}
use Rattle.bully_calls.specs.Slot.{holds_call}
use Rattle.bully_calls.specs.declared.call.Answer.{Answer}
use Rattle.bully_calls.specs.declared.call.Phase.{Phase}
use Rattle.bully_calls.specs.declared.event.Event.{Event}
use Rattle.bully_steps.specs.Point.{offered}
use Rattle.bully_steps.specs.declared.point.Want.{Want}
use Rattle.bully_world.proofs.Events.Checking.{check-cause, timeout-cause}
use Rattle.bully_world.proofs.Events.Dropping.{drop-cause}
use Rattle.bully_world.proofs.Events.Moving.{move-cause}
use Rattle.bully_world.proofs.Events.Planning.{plan-cause}
use Rattle.bully_world.proofs.Events.Starting.{start-cause}
use Rattle.bully_world.proofs.NodeStateLemmas.{node_of_pending, node_state_here}
use Rattle.bully_world.specs.Cause.{first_of, is_live_in, is_pending, later_refusals, refuses}
use Rattle.bully_world.specs.NodeInvariant.{WorldInvariant}
use Rattle.bully_world.specs.State.{StoredNode, node_state_of}
use Rattle.bully_world.specs.StateAfter.{node_after, opened_state, phased_state}
use Rattle.bully_world.specs.Step.{Step}
use Rattle.bully_world.specs.World.{NodeState, World, node_state, pending, with_node_state}

-- ---- what is left of a call that ran

-- the state's call ran with this answer
pub record Ran (answer : Answer) (x : NodeState) : Type 0 where
  pub call : Pending
  pub is : x.pending ≡ Some call
  pub phase : call.phase ≡ Phase.Ran answer

-- what a node with such a call can't do, and what leaves its call as it is
no_call : (answer : Answer) (x : NodeState) → Ran answer x → x.pending ≡ None → ⊥
no_call answer x r none = grind (arith, r.is, none)

not_sent : (answer : Answer) (x : NodeState) (c : Pending) → Ran answer x → x.pending ≡ Some c → c.phase ≡ Phase.Sent → ⊥
not_sent answer x c r is sent = grind (arith, r.is, r.phase, is, sent)

same_pending : (answer : Answer) (x y : NodeState) → y.pending ≡ x.pending → Ran answer x → Ran answer y
same_pending answer x y same r = record { call = r.call; is = same ∙ r.is; phase = r.phase }

module _ (setup : Setup) (w : World) (i : ℕ) (answer : Answer) (all : WorldInvariant setup w) (h : HasRun i answer w) where
  abbrev pub here : Ran answer (node_state w i)
  here = record { call = h.call; is = h.is; phase = h.ran }

  node : IsNode setup i
  node = (node_of_pending setup w i h.call all h.is).0

  -- its node is written, and its call stays
  written : (w' : World) (m : NodeState) → w' ≡ with_node_state w i m → m.pending ≡ pending w i → Ran answer (node_state w' i)
  written w' m becomes same = same_pending answer (node_state w i) (node_state w' i) (ap (λ (v : World). pending v i) becomes ∙ (ap (λ (x : NodeState). x.pending) (node_state_here setup w i m all node) ∙ same)) here

is_itself : (i : ℕ) → i == i ≡ false → ⊥
is_itself i e = absurd (grind (arith, nat_tests, e))

-- node i's own event leaves its call as it is, or ends it
pub own_stays : (setup : Setup) (w w' : World) (e : Event) (a : Answer) (answer : Answer) → WorldInvariant setup w → Step setup w e w' a → ends_call e (node_of e) ≡ false → HasRun (node_of e) answer w → Ran answer (node_state w' (node_of e))
own_stays setup w w' (Event.Recover i) a answer all s ends h = written setup w i answer all h w' _ s.2 refl
own_stays setup w w' (Event.Crash i) a answer all s ends h = absurd (is_itself i ends)
own_stays setup w w' (Event.Check i) a answer all s ends h = written setup w i answer all h w' _ s.2 refl
own_stays setup w w' (Event.Timeout i) a answer all s ends h = written setup w i answer all h w' _ s.2 refl
own_stays setup w w' (Event.Start i) a answer all s ends h = absurd (no_call answer (node_state w i) (here setup w i answer all h) s.1)
own_stays setup w w' (Event.Run i) a answer all s ends h = absurd (not_sent answer (node_state w i) s.0 (here setup w i answer all h) s.1 s.2)
own_stays setup w w' (Event.Lose i) a answer all s ends h = absurd (is_itself i ends)
own_stays setup w w' (Event.Return i) a answer all s ends h = absurd (is_itself i ends)
own_stays setup w w' (Event.Drop i) a answer all s ends h = absurd (is_itself i ends)
own_stays setup w w' (Event.Move i) a answer all s ends h = absurd (no_call answer (node_state w i) (here setup w i answer all h) s.1)
own_stays setup w w' (Event.Plan i table) a answer all s ends h = absurd (no_call answer (node_state w i) (here setup w i answer all h) s.1)

-- ---- what is read of the node by the refusals of an event that it takes by itself

-- the states are alike in all that the refusals of such an event read
pub record IsReadAlike (x y : NodeState) : Type 0 where
  pub vector : x.vector ≡ y.vector
  pub point : x.point ≡ y.point
  pub pending : is_pending x.pending ≡ is_pending y.pending
  pub live : is_live_in x.pending ≡ is_live_in y.pending

pub same_refusals : (setup : Setup) (w v : World) (count : ℕ) (e : Event) (x y : NodeState) → IsAlone (kind_of e) → node_state w (node_of e) ≡ x → node_state v (node_of e) ≡ y → IsReadAlike x y
    → first_of (refuses setup w count e) later_refusals ≡ first_of (refuses setup v count e) later_refusals
same_refusals setup w v count (Event.Recover i) x y own there here alike = refl
same_refusals setup w v count (Event.Crash i) x y own there here alike = refl
same_refusals setup w v count (Event.Check i) x y own there here alike = grind (arith, check-cause setup w count i x there, check-cause setup v count i y here, alike.point)
same_refusals setup w v count (Event.Timeout i) x y own there here alike = grind (arith, timeout-cause setup w count i x there, timeout-cause setup v count i y here, alike.point)
same_refusals setup w v count (Event.Start i) x y own there here alike = grind (arith, start-cause setup w count i x there, start-cause setup v count i y here, alike.vector, alike.point, alike.pending)
same_refusals setup w v count (Event.Drop i) x y own there here alike = grind (arith, drop-cause setup w count i x there, drop-cause setup v count i y here, alike.pending, alike.live)
same_refusals setup w v count (Event.Move i) x y own there here alike = grind (arith, move-cause setup w count i x there, move-cause setup v count i y here, alike.vector, alike.point, alike.pending)
same_refusals setup w v count (Event.Plan i table) x y own there here alike = grind (arith, plan-cause setup w count i x table there, plan-cause setup v count i y table here, alike.vector, alike.point, alike.pending)
same_refusals setup w v count e x y own there here alike = elim own [ ]

-- ---- a reply that is under way

-- a reply that is under way stays so, or is lost with its call
pub ahead_like : (setup : Setup) (e : Event) (m : StoredNode) (a : Answer) → IsAlone (kind_of e) → holds_call is_sent m.slot ≡ true → IsLike (node_after setup e m) (node_state_of (node_after setup e (phased_state (Phase.Ran a) m)))
ahead_like setup (Event.Recover i) m a own sent = inr (record { answer = a; sent = sent; ran = refl })
ahead_like setup (Event.Crash i) m a own sent = inl refl
ahead_like setup (Event.Check i) m a own sent = inr (record { answer = a; sent = sent; ran = refl })
ahead_like setup (Event.Timeout i) m a own sent = inr (record { answer = a; sent = sent; ran = refl })
ahead_like setup (Event.Start i) m a own sent = by_want (offered setup m.vector.vector.coordinator m.point)
  where
    by_want : (q : Want) → IsLike (elim q [ Want.Start call ↦ opened_state i call m | _ ↦ m ]) (node_state_of (elim q [ Want.Start call ↦ opened_state i call (phased_state (Phase.Ran a) m) | _ ↦ phased_state (Phase.Ran a) m ]))
    by_want (Want.Start call) = inl refl
    by_want Want.Nothing = inr (record { answer = a; sent = sent; ran = refl })
    by_want Want.Move = inr (record { answer = a; sent = sent; ran = refl })
    by_want Want.Plan = inr (record { answer = a; sent = sent; ran = refl })
    by_want Want.Await = inr (record { answer = a; sent = sent; ran = refl })
ahead_like setup (Event.Drop i) m a own sent = inl refl
ahead_like setup (Event.Move i) m a own sent = inr (record { answer = a; sent = sent; ran = refl })
ahead_like setup (Event.Plan i table) m a own sent = inr (record { answer = a; sent = sent; ran = refl })
ahead_like setup e m a own sent = elim own [ ]
