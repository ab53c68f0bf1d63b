-- What an agent tells and becomes, put together from what its node state becomes.
use Rattle.std.proofs.Common.{◌≡◌, ℕ, ◌+◌, ◌<◌, refl, ◌∙◌, ap, subst}
use Rattle.bully_base.specs.Setup.{Setup}
use Rattle.bully_calls.specs.declared.call.Answer.{Answer}
use Rattle.bully_calls.specs.declared.call.Phase.{Phase}
use Rattle.bully_handlers.specs.Handler.{reply}
use Rattle.bully_calls.specs.declared.message.Reply.{Reply}
use Rattle.bully_calls.specs.declared.message.Request.{Request}
use Rattle.bully_calls.specs.declared.event.Event.{Event}
use Rattle.bully_world.specs.declared.take.AppliedStep.{AppliedStep}
use Rattle.bully_calls.specs.Events.{node_of}
use Rattle.bully_world.specs.State.{StoredNode}
use Rattle.bully_world.specs.StateAfter.{heard_state, node_after, node_answer, phased_state}
use Rattle.bully_agent.specs.declared.agent.FailedCall.{FailedCall}
use Rattle.bully_agent.specs.Agent.{AgentState, IsTaken, number_after}
use Rattle.bully_agent.specs.Calls.{CalleeIsDown, CanServe, HasRun, IsAwaited, IsDue, IsFailed, IsRequested, IsReturned, IsServed, returned_answer, returned_by}
use Rattle.bully_agent.specs.Part.{Always, FollowsAt}

abbrev pub agent : Setup → ℕ → ℕ → ℕ → StoredNode → AgentState
agent setup i events number m = record { setup = setup; node = i; events = events; number = number; node_state = m }

-- the reply to a request, with this answer
abbrev reply_of : Request → Answer → Reply
reply_of r a = record { caller = r.caller; number = r.number; answer = a }

module _ (setup : Setup) (i events number : ℕ) (m n : StoredNode) where
  pub taken_is : (e : Event) (k : ℕ) (taken : AppliedStep) → events < setup.events_max → node_of e ≡ i → taken.event ≡ e → n ≡ node_after setup e m → taken.answer ≡ node_answer e m → k ≡ number_after e events number
      → FollowsAt Always setup (node_of e) m e taken.answer n → IsTaken (agent setup i events number m) e (agent setup i (events + 1) k n) taken
  taken_is e k taken room named event after answer numbered follows = record {
    room = room;
    event = event;
    answer = answer;
    after = ap (λ j. agent setup i (events + 1) j n) numbered ∙ ap (agent setup i (events + 1) (number_after e events number)) after;
    follows = subst (λ j. FollowsAt Always setup j m e taken.answer n) named follows;
  }

  pub served_is : (r : Request) (a : Answer) → CanServe setup i events m r → a ≡ reply r.call.kind m.vector.vector → n ≡ heard_state r.caller r.call r.table m
      → FollowsAt (IsRequested i r) setup i m (Event.Run r.caller) a n
      → IsServed (agent setup i events number m) r (agent setup i (events + 1) number n) (record { event = Event.Run r.caller; reply = record { caller = r.caller; number = r.number; answer = a } })
  served_is r a can answer after follows = record { can = can; event = refl; answered = ap (reply_of r) answer; after = ap (agent setup i (events + 1) number) after; follows = follows }

  pub returned_is : (r : Reply) (taken : AppliedStep) → events < setup.events_max → IsDue (agent setup i events number m) r → taken.event ≡ Event.Return i → n ≡ returned_by setup i (Phase.Ran r.answer) m → taken.answer ≡ returned_answer i (Phase.Ran r.answer) m
      → FollowsAt (HasRun i r.answer) setup i m (Event.Return i) taken.answer n → IsReturned (agent setup i events number m) r (agent setup i (events + 1) number n) taken
  returned_is r taken room due event after answer follows = record { room = room; due = due; event = event; answer = answer; after = ap (agent setup i (events + 1) number) after; follows = follows }

  pub failed_is : (k : ℕ) (failed : FailedCall) → events + 1 < setup.events_max → IsAwaited (agent setup i events number m) k → failed.lost ≡ Event.Lose i → failed.returned.event ≡ Event.Return i → n ≡ returned_by setup i Phase.Failed m → failed.returned.answer ≡ returned_answer i Phase.Failed m
      → FollowsAt (CalleeIsDown m.slot) setup i m (Event.Lose i) Answer.Done (phased_state Phase.Failed m) → FollowsAt Always setup i (phased_state Phase.Failed m) (Event.Return i) failed.returned.answer n → IsFailed (agent setup i events number m) k (agent setup i (events + 2) number n) failed
  failed_is k failed room awaited lost event after answer loses follows = record { room = room; awaited = awaited; lost = lost; event = event; answer = answer; after = ap (agent setup i (events + 2) number) after; loses = loses; follows = follows }
