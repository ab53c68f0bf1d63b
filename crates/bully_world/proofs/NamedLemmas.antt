-- In every world that a lawful list leads to, halters and owners are nodes of the setup, and so are those that its events name.
use Rattle.std.proofs.Common.{List, [], ◌∷◌, All, sym, subst}
use Rattle.std.proofs.lemmas.List.Elements.{All-cons, All-nil}
use Rattle.bully_base.specs.Setup.{Setup}
use Rattle.bully_calls.specs.declared.call.Answer.{Answer}
use Rattle.bully_calls.specs.declared.event.Event.{Event}
use Rattle.bully_world.specs.Lawful.{IsLawful, LeadTo}
use Rattle.bully_world.specs.NodeInvariant.{WorldInvariant}
use Rattle.bully_world.specs.World.{World, first_world}
use Rattle.bully_world.proofs.NodeInvariantLemmas.{first_fits, first_node_state, step_fits}
use Rattle.bully_world.proofs.NameLemmas.{NamesNodes}
pub use Rattle.bully_world.proofs.NameLemmas.{AllNameNodes, IsEventOf, OwnedByNodes}
use Rattle.bully_world.proofs.Events.{step-names}
pub use Rattle.bully_world.proofs.Events.{step-event}

first-names : (setup : Setup) → AllNameNodes setup (first_world setup)
first-names setup i = subst (NamesNodes setup) (sym (first_node_state setup i)) (record { vector = (tt, tt); table = tt })

lead-names : (setup : Setup) (w : World) (events : List Event) (answers : List Answer) (w' : World) → LeadTo setup w events answers w' → WorldInvariant setup w → AllNameNodes setup w
    → AllNameNodes setup w'
lead-names setup w [] [] w' l fits all = subst (AllNameNodes setup) (sym l) all
lead-names setup w (e ∷ events) (a ∷ answers) w' l fits all =
    lead-names setup l.0 events answers w' l.2 (step_fits setup w e l.0 a l.1 fits) (step-names setup w e l.0 a fits l.1 all)
lead-names setup w [] (a ∷ answers) w' l fits all = elim l [ ]
lead-names setup w (e ∷ events) [] w' l fits all = elim l [ ]

pub lawful-names : (setup : Setup) (events : List Event) (answers : List Answer) (w : World) → IsLawful setup events answers w → AllNameNodes setup w
lawful-names setup events answers w lawful = lead-names setup (first_world setup) events answers w lawful.leads (first_fits setup) (first-names setup)

lead-events : (setup : Setup) (w : World) (events : List Event) (answers : List Answer) (w' : World) → LeadTo setup w events answers w' → WorldInvariant setup w
    → All (IsEventOf setup) events
lead-events setup w [] [] w' l fits = All-nil (IsEventOf setup)
lead-events setup w (e ∷ events) (a ∷ answers) w' l fits =
    All-cons (IsEventOf setup) e events (step-event setup w e l.0 a fits l.1) (lead-events setup l.0 events answers w' l.2 (step_fits setup w e l.0 a l.1 fits))
lead-events setup w [] (a ∷ answers) w' l fits = elim l [ ]
lead-events setup w (e ∷ events) [] w' l fits = elim l [ ]

pub lawful-events : (setup : Setup) (events : List Event) (answers : List Answer) (w : World) → IsLawful setup events answers w → All (IsEventOf setup) events
lawful-events setup events answers w lawful = lead-events setup (first_world setup) events answers w lawful.leads (first_fits setup)
