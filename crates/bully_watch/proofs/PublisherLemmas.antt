-- What a publisher keeps.
use Rattle.std.proofs.Common.{◌≡◌, ℕ, ◌≤◌, true, List, [], ◌++◌, length, take, drop, refl, sym, ap, ◌∙◌, subst, take-append-drop, length-take-le}
use Rattle.bully_base.specs.Setup.{Setup}
use Rattle.bully_world.specs.State.{WorldState, world_of}
use Rattle.bully_world.specs.World.{World}
use Rattle.bully_watch.specs.History.{IsHistory}
use Rattle.bully_watch.specs.CopyRule.{IsPublisher, LeadsToCopy, no_knowledge}
use Rattle.bully_watch.specs.declared.entry.Entry.{Entry}
use Rattle.bully_watch.specs.declared.knowledge.Knowledge.{Knowledge}
use Rattle.bully_watch.proofs.HistoryLemmas.{history_prefix}

-- the first entries of a history are one
history_take : (setup : Setup) (n : ℕ) (entries : List Entry) (w : World) → IsHistory setup entries w → (mid : World) × IsHistory setup (take n entries) mid
history_take setup n entries w history =
    let parts = history_prefix setup (take n entries) (drop n entries) w (subst (λ l. IsHistory setup l w) (sym (take-append-drop n entries)) history) in
    (parts.0, parts.1)

-- more was taken in, and what is shown stays
pub taken_more : (name n n' : ℕ) (v : Knowledge) (pending pending' : List Entry) (x : WorldState) (entries : List Entry) (w : World) → IsPublisher name n v x pending → IsHistory v.publisher.setup entries w → n' ≤ length entries → v.seen ++ pending' ≡ take n' entries → IsPublisher name n' v x pending'
taken_more name n n' v pending pending' x entries w f history within is =
    let first = history_take v.publisher.setup n' entries w history in
    record {
      named = f.named;
      owned = f.owned;
      setup = f.setup;
      leads = f.leads;
      taken = (first.0, subst (λ s. IsHistory s (v.seen ++ pending') first.0) f.setup (subst (λ l. IsHistory v.publisher.setup l first.0) (sym is) first.1));
      counted = sym (length-take-le n' entries within) ∙ ap length (sym is);
    }

-- nothing was taken in yet
pub taken_nothing : (k : Knowledge) (x : WorldState) (pending : List Entry) → k ≡ no_knowledge → LeadsToCopy [] x → pending ≡ [] → (w : World) × IsHistory x.setup (k.seen ++ pending) w
taken_nothing k x pending new leads none =
    let empty : k.seen ++ pending ≡ [] = ap (λ (v : Knowledge). v.seen ++ pending) new ∙ none in
    (world_of x, subst (λ l. IsHistory x.setup l (world_of x)) (sym empty) leads.0)

-- a publisher that has its name and its setup, and nothing else yet
pub opened_keeps : (name : ℕ) (setup : Setup) (k : Knowledge) (x : WorldState) (pending : List Entry) → k ≡ record { is_named = true; publisher = record { name = name; setup = setup }; seen = [] } → x.setup ≡ setup → LeadsToCopy [] x → pending ≡ [] → IsPublisher name 0 k x pending
opened_keeps name setup k x pending is same leads none =
    let K : Knowledge → Type 0 = λ v. IsPublisher name 0 v x pending in
    subst K (sym is) (record {
      named = refl;
      owned = refl;
      setup = sym same;
      leads = leads;
      taken = (world_of x, subst (λ l. IsHistory x.setup l (world_of x)) (sym none) leads.0);
      counted = ap length (sym none);
    })
