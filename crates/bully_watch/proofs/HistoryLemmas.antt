-- A history with one entry more, its prefixes, and the one world that it leads to.
use Rattle.std.proofs.Common.{◌≡◌, ◌++◌, ◌+◌, ◌<◌, ◌≤◌, List, [], ◌∷◌, map, length, Some, arith, refl, sym, subst, length-append}
use Rattle.std.proofs.lemmas.List.{length-map, map-append}
use Rattle.bully_base.specs.Setup.{Setup}
use Rattle.bully_world.specs.Lawful.{LeadTo}
use Rattle.bully_world.specs.Step.{Step}
use Rattle.bully_world.specs.World.{World, first_world}
use Rattle.bully_world.proofs.LawfulLemmas.{lawful_more}
use Rattle.bully_world.proofs.StepOfLemmas.{step_is_one, lawful_is_one}
use Rattle.bully_watch.specs.declared.entry.Entry.{Entry}
use Rattle.bully_watch.specs.History.{AreActors, IsHistory, whose, event_of, answer_of}

actors_more : (setup : Setup) (w : World) (entries : List Entry) (mid : World) (e : Entry) → AreActors setup w entries → LeadTo setup w (map event_of entries) (map answer_of entries) mid → whose mid e.event ≡ Some e.actor → AreActors setup w (entries ++ e ∷ [])
actors_more setup w [] mid e actors lead own = (rw lead at own, λ mid' s. tt)
actors_more setup w (x ∷ entries) mid e actors lead own = (
  actors.0,
  λ next s.
      let same = step_is_one setup w x.event next lead.0 x.answer x.answer s lead.1 in
      actors_more setup next entries mid e (actors.1 next s) (subst (λ m. LeadTo setup m (map event_of entries) (map answer_of entries) mid) same.0 lead.2) own,
)

-- a history has one entry more
pub history_more : (setup : Setup) (entries : List Entry) (w : World) (e : Entry) (w' : World) → IsHistory setup entries w → length entries < setup.events_max → Step setup w e.event w' e.answer → whose w e.event ≡ Some e.actor → IsHistory setup (entries ++ e ∷ []) w'
history_more setup entries w e w' history room s own = record {
  lawful =
      let more = lawful_more setup (map event_of entries) (map answer_of entries) w e.event e.answer w' history.lawful (rw (length-map entries event_of) room) s in
      rw (map-append event_of entries (e ∷ []), map-append answer_of entries (e ∷ [])) more;
  actors = actors_more setup (first_world setup) entries w e history.actors history.lawful.leads own;
}

actors_prefix : (setup : Setup) (w : World) (entries more : List Entry) → AreActors setup w (entries ++ more) → AreActors setup w entries
actors_prefix setup w [] more actors = tt
actors_prefix setup w (e ∷ entries) more actors = (actors.0, λ mid s. actors_prefix setup mid entries more (actors.1 mid s))

entries_split : (setup : Setup) (w : World) (entries more : List Entry) (w' : World) → LeadTo setup w (map event_of (entries ++ more)) (map answer_of (entries ++ more)) w' → (mid : World) × LeadTo setup w (map event_of entries) (map answer_of entries) mid × LeadTo setup mid (map event_of more) (map answer_of more) w'
entries_split setup w [] more w' leads = (w, refl, leads)
entries_split setup w (e ∷ entries) more w' leads =
    let rest = entries_split setup leads.0 entries more w' leads.2 in
    (rest.0, (leads.0, leads.1, rest.1), rest.2)

-- a prefix of a history is one, and the other entries go on from where it leads
pub history_prefix : (setup : Setup) (entries more : List Entry) (w : World) → IsHistory setup (entries ++ more) w → (mid : World) × IsHistory setup entries mid × LeadTo setup mid (map event_of more) (map answer_of more) w
history_prefix setup entries more w history =
    let parts = entries_split setup (first_world setup) entries more w history.lawful.leads in
    let whole : length (entries ++ more) ≤ setup.events_max = rw (sym (length-map (entries ++ more) event_of)) history.lawful.bounded in
    let size : length (map event_of entries) ≡ length entries = length-map entries event_of in
    let sum : length (entries ++ more) ≡ length entries + length more = length-append entries more in
    (parts.0, record { lawful = record { leads = parts.1; bounded = omega (arith, whole, size, sum) }; actors = actors_prefix setup (first_world setup) entries more history.actors }, parts.2)

-- a history leads to one world
pub history_one : (setup : Setup) (entries : List Entry) (w v : World) → IsHistory setup entries w → IsHistory setup entries v → v ≡ w
history_one setup entries w v one other =
    (lawful_is_one setup (map event_of entries) (map answer_of entries) (map answer_of entries) w v one.lawful other.lawful).0

-- no event yet is a history
pub history_empty : (setup : Setup) → IsHistory setup [] (first_world setup)
history_empty setup = record { lawful = record { leads = refl; bounded = omega arith }; actors = tt }
