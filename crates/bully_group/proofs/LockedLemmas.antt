-- A locked group with one entry more, and the view of a finished one.
use Rattle.std.proofs.Common.{◌≡◌, ◌<◌, ◌+◌, ◌++◌, ℕ, List, [], ◌∷◌, Option, Some, None, map, length, length-append, append_assoc, arith, ap, ◌∙◌, subst, sym}
use mathlib.Core.List.{IsPrefix}
use Rattle.bully_base.specs.Setup.{Setup}
use Rattle.bully_watch.specs.declared.entry.Entry.{Entry}
use Rattle.bully_watch.specs.History.{whose, event_of, answer_of}
use Rattle.bully_watch.specs.declared.knowledge.PublisherId.{PublisherId}
use Rattle.bully_watch.specs.Observation.{PublisherState}
use Rattle.bully_watch.proofs.HistoryLemmas.{history_more}
use Rattle.bully_world.specs.State.{WorldState, world_of}
use Rattle.bully_world.specs.Step.{Step}
use Rattle.bully_agree.specs.View.{ViewAgrees}
use Rattle.bully_agree.proofs.ViewLemmas.{lawful_agrees}
use Rattle.bully_group.specs.Locked.{LockedState, IsLocked, FollowsHistory, ClosedState, IsClosed}

-- what a publisher follows goes on
follows_more : (own : Setup) (history : List Entry) (e : Entry) (publisher : Option PublisherState) → FollowsHistory own history publisher → FollowsHistory own (history ++ e ∷ []) publisher
follows_more own history e None follows = tt
follows_more own history e (Some p) follows = (follows.0, prefix_more p.shown follows.1, prefix_more p.taken follows.2)
  where
    prefix_more : (xs : List Entry) → IsPrefix xs history → IsPrefix xs (history ++ e ∷ [])
    prefix_more xs more = (more.0 ++ e ∷ [], sym (append_assoc xs more.0 (e ∷ [])) ∙ ap (λ l. l ++ e ∷ []) more.1)

-- the event is a step of its actor, and there is room for it
pub locked_more : (own : Setup) (named : Option PublisherId) (cut : ℕ) (s : LockedState) (e : Entry) (w : WorldState) → IsLocked own named cut s → s.world.events < s.world.setup.events_max → Step s.world.setup (world_of s.world) e.event (world_of w) e.answer → whose (world_of s.world) e.event ≡ Some e.actor → w.setup ≡ s.world.setup → w.events ≡ s.world.events + 1 → IsLocked own named cut (record { world = w; history = s.history ++ e ∷ []; counted = s.counted + 1; publisher = s.publisher })
locked_more own named cut s e w locked room step yours same counted = record {
  setup = same ∙ locked.setup;
  history =
      history_more own s.history (world_of s.world) e (world_of w) locked.history (rw (sym locked.events, sym locked.setup) room) (subst (λ z. Step z (world_of s.world) e.event (world_of w) e.answer) locked.setup step) yours;
  events = omega (arith, length-append s.history (e ∷ []), locked.events, counted);
  counted = omega (arith, length-append s.history (e ∷ []), locked.counted);
  publisher = locked.publisher;
  follows = follows_more own s.history e s.publisher locked.follows;
  parts = locked.parts;
}

-- the view of a finished group agrees
pub closed_agrees : (c : ClosedState) → IsClosed c → ViewAgrees c.view
closed_agrees c closed =
    subst ViewAgrees (sym closed.view) (lawful_agrees c.view.setup (length c.history) (map event_of c.history) (map answer_of c.history) closed.world closed.history.lawful)
