-- Each step of the kit keeps the rule.
use Rattle.std.proofs.Common.{◌≡◌, ℕ, ◌≢◌, List, [], ◌∷◌, ◌++◌, length, fold, set, refl, sym, ap, ◌∙◌, subst, ⊎_elim, arith}
use mathlib.Core.Option.{some}
use mathlib.Core.List.{IsPrefix}
use lib.ListN.{get_elem?}
use Rattle.atomic_table.proofs.Lists.{at_set, at_snoc}
use Rattle.left_right.specs.Register.{Admits, Turns, TurnsAt, Forks, Merges}
use Rattle.bully_agree.proofs.ViewLemmas.{shown_there}
use Rattle.bully_agree.specs.View.{View, view_of, shown, shown_of}
use Rattle.bully_base.specs.Setup.{Setup}
use Rattle.bully_world.specs.State.{WorldState, first_state, world_of}
use Rattle.bully_world.specs.World.{World, first_world, node_state}
use Rattle.bully_watch.specs.History.{IsHistory}
use Rattle.bully_watch.specs.Observation.{Glances}
use Rattle.bully_watch.specs.CopyRule.{IsPublished, Knows, LeadsToCopy, SeesAll, applied_to, no_knowledge, copy_of}
use Rattle.bully_watch.specs.Sight.{IsSeen, glance_in}
use Rattle.bully_watch.specs.declared.entry.Entry.{Entry}
use Rattle.bully_watch.specs.declared.glance.Glance.{Glance}
use Rattle.bully_watch.specs.declared.knowledge.Knowledge.{Knowledge}
use Rattle.bully_watch.specs.declared.knowledge.PublisherId.{PublisherId}
use Rattle.bully_watch.specs.declared.world_copy.WorldCopy.{WorldCopy}
use Rattle.bully_watch.proofs.HistoryLemmas.{history_empty}
use Rattle.bully_watch.proofs.CopyLemmas.{copy_after}
use Rattle.bully_watch.proofs.PrefixLemmas.{prefix_self, prefix_trans, prefix_whole}

abbrev holds : WorldCopy → List Knowledge → Type 0
holds p seats = IsPublished p.world seats

knows_nothing : (setup : Setup) (history : List Entry) → Knows setup history no_knowledge
knows_nothing setup history = ((history, refl), λ no. absurd (cc (no)))

-- a new reader
pub admits : Admits holds no_knowledge
admits x seats h = (h.0, h.1, λ seat k at. ⊎_elim (λ old. h.2 seat k old) (λ (new : no_knowledge ≡ k). subst (λ (u : Knowledge). Knows x.world.setup h.0 u) new (knows_nothing x.world.setup h.0)) (at_snoc seats no_knowledge k seat at))

set_knows : (setup : Setup) (history : List Entry) (seats : List Knowledge) (seat : ℕ) (w : Knowledge) → ((j : ℕ) (u : Knowledge) → get_elem? seats j ≡ some u → Knows setup history u) → Knows setup history w → (j : ℕ) (u : Knowledge) → get_elem? (set seats seat w) j ≡ some u → Knows setup history u
set_knows setup history seats seat w h is j u at = ⊎_elim (λ (t : (j ≡ seat) × (w ≡ u)). subst (λ (z : Knowledge). Knows setup history z) t.1 is) (λ (t : (j ≢ seat) × (get_elem? seats j ≡ some u)). h j u t.1) (at_set seats seat j w u at)

-- a look
pub looks : (seat : ℕ) (v : Knowledge) → Turns holds seat v (λ x. x) (λ v x y w. SeesAll v y.world w)
looks seat v x seats h at =
    let w : Knowledge = record v { seen = h.0 } in
    let mine = h.2 seat v at in
    (w, (h.0, h.1, set_knows x.world.setup h.0 seats seat w h.2 (prefix_self h.0, mine.1)), (refl, mine.0, h.1, mine.1))

-- what is told
pub tells : (seat : ℕ) (v : Knowledge) → Forks holds seat v v v
tells seat v x seats h at = (h.0, h.1, λ j u is. ⊎_elim (λ old. set_knows x.world.setup h.0 seats seat v h.2 (h.2 seat v at) j u old) (λ (new : v ≡ u). subst (λ (z : Knowledge). Knows x.world.setup h.0 z) new (h.2 seat v at)) (at_snoc (set seats seat v) v u j is))

-- what is learned
pub learns : (seat : ℕ) (v : Knowledge) (other : ℕ) (w : Knowledge) → Merges holds seat v other w w no_knowledge
learns seat v other w x seats h at apart there =
    let told : Knows x.world.setup h.0 w = ⊎_elim (λ (t : (other ≡ seat) × (w ≡ w)). absurd (apart t.0)) (λ (t : (other ≢ seat) × (get_elem? seats other ≡ some w)). h.2 other w t.1) (at_set seats seat other w w there) in
    (h.0, h.1, set_knows x.world.setup h.0 (set seats seat w) other no_knowledge (set_knows x.world.setup h.0 seats seat w h.2 told) (knows_nothing x.world.setup h.0))

-- what leads to the copy is all of the history, since it is as long
all_of : (x : WorldState) (seen history : List Entry) → LeadsToCopy seen x → LeadsToCopy history x → IsPrefix seen history → seen ≡ history
all_of x seen history mine theirs prefix =
    let one : x.events ≡ length seen = mine.1 in
    let other : x.events ≡ length history = theirs.1 in
    prefix_whole seen history prefix (omega (arith, one, other))

-- a publish
pub publishes : (seat : ℕ) (v : Knowledge) (more : List Entry) (x y : WorldCopy) (w : Knowledge) (t : World) → LeadsToCopy v.seen x.world → IsHistory x.world.setup (v.seen ++ more) t → copy_of y.world ≡ fold applied_to (copy_of x.world) more
    → w.seen ≡ v.seen ++ more → w.publisher.setup ≡ x.world.setup → TurnsAt holds seat v x y (λ v x y u. u ≡ w)
publishes seat v more x y w t mine history is all named seats h at =
    let after = copy_after v.seen more x.world y.world t mine history is in
    let whole : v.seen ≡ h.0 = all_of x.world v.seen h.0 mine h.1 (h.2 seat v at).0 in
    let leads : LeadsToCopy w.seen y.world = subst (λ (l : List Entry). LeadsToCopy l y.world) (sym all) after.1 in
    let onward : IsPrefix h.0 w.seen = subst (λ (z : List Entry). IsPrefix z w.seen) whole (more, sym all) in
    let knows : (j : ℕ) (u : Knowledge) → get_elem? seats j ≡ some u → Knows y.world.setup w.seen u = λ j u a. (prefix_trans u.seen h.0 w.seen (h.2 j u a).0 onward, λ n. (h.2 j u a).1 n ∙ sym after.0) in
    (w, (w.seen, leads, set_knows y.world.setup w.seen seats seat w knows (prefix_self w.seen, λ n. named ∙ sym after.0)), refl)

-- a new copy, before any entry
pub copy_opened : (setup : Setup) (w : WorldState) → w ≡ first_state setup → world_of w ≡ first_world setup → LeadsToCopy [] w
copy_opened setup w new first =
    let same : w.setup ≡ setup = ap (λ v. v.setup) new in
    (subst (λ s. IsHistory s [] (world_of w)) (sym same) (subst (λ v. IsHistory setup [] v) (sym first) (history_empty setup)), ap (λ v. v.events) new)

-- the writer alone, who knows nothing yet
pub rule_opened : (setup : Setup) (w : WorldState) → w ≡ first_state setup → world_of w ≡ first_world setup → IsPublished w (no_knowledge ∷ [])
rule_opened setup w new first =
    ([], copy_opened setup w new first, λ seat k at. ⊎_elim (λ old. absurd (cc (old))) (λ (own : no_knowledge ≡ k). subst (λ (u : Knowledge). Knows w.setup [] u) own (knows_nothing w.setup [])) (at_snoc [] no_knowledge k seat at))

-- what is read of a node in the copy is what an observation shows of it
pub glance_shows : (p : PublisherId) (entries : List Entry) (i : ℕ) (g : Glance) → IsSeen p.setup entries (λ w s. s ≡ glance_in w i) g → Glances p entries i g
glance_shows p entries i g seen =
    let w : WorldState = seen.0 in
    let v : View = view_of p.setup (length entries) (world_of w) in
    let history : IsHistory p.setup entries (world_of w) = subst (λ s. IsHistory s entries (world_of w)) seen.2 seen.1.0 in
    let shows : shown v i ≡ shown_of (node_state (world_of w) i) = shown_there p.setup (length entries) (world_of w) i in
    let is : g ≡ glance_in w i = seen.3 in
    let counted : w.events ≡ length entries = seen.1.1 in
    (v, (world_of w, history, refl), cc (is, counted, ap (λ s. s.status) shows, ap (λ s. s.coordinator) shows))
