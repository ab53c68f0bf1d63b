-- The events that a node takes by itself: each leads on in every world of which the node may be a part.
use Rattle.std.proofs.Common.{◌≡◌, ℕ, ◌+◌, ◌<◌, ◌^◌, inl, inr, None, refl, sym, subst}
use Rattle.bully_base.specs.Setup.{Setup}
use Rattle.bully_calls.specs.declared.call.Phase.{Phase}
use Rattle.bully_calls.specs.declared.event.Event.{Event}
use Rattle.bully_calls.specs.Events.{kind_of, node_of}
use Rattle.bully_world.specs.Cause.{cause, IsToldByNode}
use Rattle.bully_world.specs.State.{StoredNode}
use Rattle.bully_world.specs.StateAfter.{node_after, node_answer, phased_state, CanApplyHere}
use Rattle.bully_world.specs.Step.{Step}
use Rattle.bully_world.specs.World.{World, node_state}
use Rattle.bully_world.proofs.OwnEvents.{IsNoRun}
use Rattle.bully_agent.specs.Agent.{IsAgentOf, IsAlone}
use Rattle.bully_agent.specs.Part.{IsLike, IsPart, Always, FollowsAt, CauseAt}
use Rattle.bully_agent.proofs.PartLemmas.{alone, alone_part, exact_follows, exact_agent, exact_can}
use Rattle.bully_agent.proofs.EventLemmas.{ahead_like}

pub alone_no_run : (e : Event) → IsAlone (kind_of e) → IsNoRun e
alone_no_run (Event.Run i) own = elim own [ ]
alone_no_run e own = λ i same. absurd (cc same)

pub alone_told : (e : Event) → IsAlone (kind_of e) → IsToldByNode e
alone_told (Event.Run i) own = elim own [ ]
alone_told (Event.Lose i) own = elim own [ ]
alone_told e own = tt

-- the event is answered alike, whatever the node is
same_answer : (e : Event) (m n : StoredNode) → IsAlone (kind_of e) → node_answer e m ≡ node_answer e n
same_answer (Event.Return i) m n own = elim own [ ]
same_answer e m n own = refl

-- Where nothing refuses the event in any world of which this is the node, it leads on in each of them.
module _ (setup : Setup) (e : Event) (count : ℕ) (m : StoredNode) (own : IsAlone (kind_of e)) (free : CauseAt Always setup (node_of e) count m e None) where
  follows_by : (w : World) → IsPart setup (node_of e) m w → IsLike m (node_state w (node_of e)) → (w' : World) × Step setup w e w' (node_answer e m) × IsPart setup (node_of e) (node_after setup e m) w'
  follows_by w part (inl here) =
      let next = exact_follows setup e w count m (alone_no_run e own) (record { all = part.fits; here = here; none = free w part tt }) in
      (next.0, next.1, record { fits = next.2; like = inl next.3 })
  follows_by w part (inr u) =
      let ahead = phased_state (Phase.Ran u.answer) m in
      let next = exact_follows setup e w count ahead (alone_no_run e own) (record { all = part.fits; here = u.ran; none = free w part tt }) in (
        next.0,
        subst (λ a. Step setup w e next.0 a) (same_answer e ahead m own) next.1,
        record { fits = next.2; like = subst (IsLike (node_after setup e m)) (sym next.3) (ahead_like setup e m u.answer own u.sent) },
      )

  pub alone_follows : FollowsAt Always setup (node_of e) m e (node_answer e m) (node_after setup e m)
  alone_follows w part met = follows_by w part part.like

  pub alone_free : IsAgentOf setup (node_of e) count m → cause setup (alone setup (node_of e) m) count e ≡ None
  alone_free is = free (alone setup (node_of e) m) (alone_part setup (node_of e) m is.is_node is.fits) tt

  pub alone_agent : IsAgentOf setup (node_of e) count m → IsAgentOf setup (node_of e) (count + 1) (node_after setup e m)
  alone_agent is = exact_agent setup e count m (alone_no_run e own) is (alone_free is)

  pub alone_can : IsAgentOf setup (node_of e) count m → count + 1 < 2 ^ 32 → CanApplyHere setup e m
  alone_can is room = exact_can setup e count m (alone_no_run e own) is (alone_free is) room
