-- Lawful lists of events, and the worlds that they lead to.
use Rattle.std.specs.Prelude.{◌≡◌, ◌≤◌, List, [], ◌∷◌, length}
use Rattle.bully_base.specs.Setup.{Setup}
use Rattle.bully_calls.specs.declared.call.Answer.{Answer}
use Rattle.bully_calls.specs.declared.event.Event.{Event}
use Rattle.bully_world.specs.Step.{Step}
use Rattle.bully_world.specs.World.{World, first_world}

-- the events, with these answers, lead from w to w'
abbrev pub LeadTo : Setup → World → List Event → List Answer → World → Type 0
LeadTo setup w [] [] w' = w' ≡ w
LeadTo setup w (e ∷ events) (a ∷ answers) w' =
    (mid : World) × Step setup w e mid a × LeadTo setup mid events answers w'
LeadTo setup w [] (a ∷ answers) w' = ⊥
LeadTo setup w (e ∷ events) [] w' = ⊥

-- the events are lawful, and lead from the first world to w with these answers
pub record IsLawful (setup : Setup) (events : List Event) (answers : List Answer) (w : World) : Type 0 where
  pub leads : LeadTo setup (first_world setup) events answers w
  pub bounded : length events ≤ setup.events_max
