-- Lists of events can be joined and split.
use Rattle.std.proofs.Common.{◌≡◌, List, [], ◌∷◌, arith, refl, ap, ◌++◌, ◌+◌, ◌<◌, length, length-append}
use Rattle.bully_base.specs.Setup.{Setup}
use Rattle.bully_calls.specs.declared.call.Answer.{Answer}
use Rattle.bully_calls.specs.declared.event.Event.{Event}
use Rattle.bully_world.specs.Lawful.{LeadTo, IsLawful}
use Rattle.bully_world.specs.Step.{Step}
use Rattle.bully_world.specs.World.{World, first_world}

-- one event more
pub lead_more : (setup : Setup) (w : World) (events : List Event) (answers : List Answer) (mid : World) (e : Event) (a : Answer) (w' : World) → LeadTo setup w events answers mid → Step setup mid e w' a → LeadTo setup w (events ++ e ∷ []) (answers ++ a ∷ []) w'
lead_more setup w [] [] mid e a w' l s = (w', rw l at s, refl)
lead_more setup w (x ∷ events) (y ∷ answers) mid e a w' l s = (l.0, l.1, lead_more setup l.0 events answers mid e a w' l.2 s)
lead_more setup w [] (y ∷ answers) mid e a w' l s = elim l [ ]
lead_more setup w (x ∷ events) [] mid e a w' l s = elim l [ ]

-- a list that is two, split at the world between them
pub lead_split : (setup : Setup) (w : World) (events events2 : List Event) (all_answers : List Answer) (w' : World) → LeadTo setup w (events ++ events2) all_answers w' → (answers answers2 : List Answer) × (mid : World) × (all_answers ≡ answers ++ answers2) × LeadTo setup w events answers mid × LeadTo setup mid events2 answers2 w'
lead_split setup w [] events2 all_answers w' l = ([], all_answers, w, refl, refl, l)
lead_split setup w (e ∷ events) events2 [] w' l = elim l [ ]
lead_split setup w (e ∷ events) events2 (a ∷ rest) w' l =
    let more = lead_split setup l.0 events events2 rest w' l.2 in
    (a ∷ more.0, more.1, more.2, ap (λ xs. a ∷ xs) more.3, (l.0, l.1, more.4), more.5)

-- a lawful list has one event more
pub lawful_more : (setup : Setup) (events : List Event) (answers : List Answer) (mid : World) (e : Event) (a : Answer) (w' : World) → IsLawful setup events answers mid → length events < setup.events_max → Step setup mid e w' a → IsLawful setup (events ++ e ∷ []) (answers ++ a ∷ []) w'
lawful_more setup events answers mid e a w' lawful room s = record {
  leads = lead_more setup (first_world setup) events answers mid e a w' lawful.leads s;
  bounded = let size : length (events ++ e ∷ []) ≡ length events + 1 = length-append events (e ∷ []) in omega (arith, size, room);
}
