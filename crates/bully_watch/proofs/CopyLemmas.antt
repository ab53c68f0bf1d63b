-- What the shown copy is after entries that go on its history.
use Rattle.std.proofs.Common.{◌≡◌, ◌≤◌, ◌<◌, ◌+◌, ℕ, List, [], ◌∷◌, ◌++◌, map, length, fold, Some, None, arith, sym, ap, ◌∙◌, subst, length-append}
use Rattle.std.proofs.lemmas.List.{length-map}
use Rattle.bully_base.specs.Setup.{Setup}
use Rattle.bully_world.proofs.CauseLemmas.{no_cause_if_step}
use Rattle.bully_world.proofs.NodeInvariantLemmas.{lawful_fits, step_fits}
use Rattle.bully_world.proofs.StepOfLemmas.{steps_computed}
use Rattle.bully_world.specs.Cause.{cause}
use Rattle.bully_world.specs.Lawful.{LeadTo}
use Rattle.bully_world.specs.NodeInvariant.{WorldInvariant}
use Rattle.bully_world.specs.State.{WorldState, world_of}
use Rattle.bully_world.specs.Step.{Step}
use Rattle.bully_world.specs.StepOf.{step_of}
use Rattle.bully_world.specs.World.{World}
use Rattle.bully_watch.specs.History.{IsHistory, event_of, answer_of}
use Rattle.bully_watch.specs.CopyRule.{WorldCopyState, LeadsToCopy, applied_to, copy_of, unless_refused, world_after}
use Rattle.bully_watch.specs.declared.entry.Entry.{Entry}
use Rattle.bully_watch.proofs.HistoryLemmas.{history_one, history_prefix}

abbrev world_copy : Setup → ℕ → World → WorldCopyState
world_copy setup events w = record { setup = setup; events = events; world = w }

-- an entry whose event is a step there
applied_step : (setup : Setup) (n : ℕ) (w : World) (e : Entry) (w' : World) → WorldInvariant setup w → n < setup.events_max → Step setup w e.event w' e.answer → applied_to (world_copy setup n w) e ≡ world_copy setup (n + 1) w'
applied_step setup n w e w' all room step =
    let none : cause setup w n e.event ≡ None = no_cause_if_step setup w n e.event w' e.answer all room step in
    let one : step_of setup w e.event ≡ Some (w', e.answer) = steps_computed setup w e.event w' e.answer step in
    ap (λ c. unless_refused c (world_copy setup n w) (world_copy setup (n + 1) (world_after w (step_of setup w e.event)))) none
    ∙ ap (λ r. world_copy setup (n + 1) (world_after w r)) one

-- entries that lead from one world to another, applied to a copy
fold_leads : (setup : Setup) (n : ℕ) (w : World) (more : List Entry) (w' : World) → WorldInvariant setup w → n + length more ≤ setup.events_max → LeadTo setup w (map event_of more) (map answer_of more) w' → fold applied_to (world_copy setup n w) more ≡ world_copy setup (n + length more) w'
fold_leads setup n w [] w' all room leads =
    let same : n ≡ n + 0 = omega arith in ap (λ v. world_copy setup n v) (sym leads) ∙ ap (λ m. world_copy setup m w') same
fold_leads setup n w (e ∷ more) w' all room leads =
    let next : n + 1 + length more ≤ setup.events_max = omega (arith, room) in
    let first : n < setup.events_max = omega (arith, room) in
    let size : n + 1 + length more ≡ n + length (e ∷ more) = omega arith in
    ap (λ p. fold applied_to p more) (applied_step setup n w e leads.0 all first leads.1)
    ∙ (fold_leads setup (n + 1) leads.0 more w' (step_fits setup w e.event leads.0 e.answer leads.1 all) next leads.2
    ∙ ap (λ m. world_copy setup m w') size)

-- the copy that more entries of its history were applied to
pub copy_after : (seen more : List Entry) (x y : WorldState) (t : World) → LeadsToCopy seen x → IsHistory x.setup (seen ++ more) t → copy_of y ≡ fold applied_to (copy_of x) more → (y.setup ≡ x.setup) × LeadsToCopy (seen ++ more) y
copy_after seen more x y t leads history is =
    let parts = history_prefix x.setup seen more t history in
    let here : world_of x ≡ parts.0 = history_one x.setup seen parts.0 (world_of x) parts.1 leads.0 in
    let onward = subst (λ v. LeadTo x.setup v (map event_of more) (map answer_of more) t) (sym here) parts.2 in
    let all = lawful_fits x.setup (map event_of seen) (map answer_of seen) (world_of x) leads.0.lawful in
    let size : length (seen ++ more) ≡ length seen + length more = length-append seen more in
    let bound : length (map event_of (seen ++ more)) ≤ x.setup.events_max = history.lawful.bounded in
    let mapped : length (map event_of (seen ++ more)) ≡ length (seen ++ more) = length-map (seen ++ more) event_of in
    let count : x.events ≡ length seen = leads.1 in
    let room : x.events + length more ≤ x.setup.events_max = omega (arith, size, bound, mapped, count) in
    let after : copy_of y ≡ world_copy x.setup (x.events + length more) t = is ∙ fold_leads x.setup x.events (world_of x) more t all room onward in
    let setup : y.setup ≡ x.setup = ap (λ p. p.setup) after in
    let world : world_of y ≡ t = ap (λ p. p.world) after in
    let events : y.events ≡ x.events + length more = ap (λ p. p.events) after in
    (setup, (subst (λ s. IsHistory s (seen ++ more) (world_of y)) (sym setup) (subst (λ v. IsHistory x.setup (seen ++ more) v) (sym world) history), omega (arith, events, count, size)))
