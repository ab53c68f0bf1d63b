-- What holds of each node by itself holds in every world that a lawful list leads to.
use Rattle.std.proofs.Common.{◌≡◌, ℕ, List, [], ◌∷◌, arith}
use Rattle.std.proofs.lemmas.Grind.{common_steps}
use Rattle.bully_base.specs.Setup.{Setup}
use Rattle.bully_base.proofs.PlaceLemmas.{at_node_replicate}
use Rattle.bully_calls.specs.declared.call.Answer.{Answer}
use Rattle.bully_calls.specs.declared.event.Event.{Event}
use Rattle.bully_world.specs.Lawful.{LeadTo, IsLawful}
use Rattle.bully_world.specs.NodeInvariant.{WorldInvariant}
use Rattle.bully_world.specs.Step.{Step}
use Rattle.bully_world.specs.World.{World, node_state, empty_node_state, first_world}
pub use Rattle.bully_world.proofs.NodeStateLemmas.{node_state_here, node_state_other, member_cases, node_of_fits, node_of_up, node_of_pending, call_of_fits, call_of_pending, written_fits, up_of_fits}
pub use Rattle.bully_world.proofs.RunInvariant.{callee_other, run_fits, ran_here, ran_there, ran_other}
use Rattle.bully_world.proofs.Events.{event_laws}
use Rattle.bully_world.proofs.QuietInvariant.{empty_fits}

pub first_node_state : (setup : Setup) (i : ℕ) → node_state (first_world setup) i ≡ empty_node_state
first_node_state setup i = at_node_replicate empty_node_state setup.nodes i

pub first_fits : (setup : Setup) → WorldInvariant setup (first_world setup)
first_fits setup = record {
  count = grind (arith, common_steps);
  fits = λ i. rw (first_node_state setup i) (empty_fits setup i);
}

pub step_fits : (setup : Setup) (w : World) (e : Event) (w' : World) (a : Answer) → Step setup w e w' a → WorldInvariant setup w → WorldInvariant setup w'
step_fits setup w e w' a = (event_laws setup e).fits w w' a

pub lead_fits : (setup : Setup) (w : World) (events : List Event) (answers : List Answer) (w' : World) → LeadTo setup w events answers w' → WorldInvariant setup w → WorldInvariant setup w'
lead_fits setup w [] [] w' l all = rw l all
lead_fits setup w (e ∷ events) (a ∷ answers) w' l all = lead_fits setup l.0 events answers w' l.2 (step_fits setup w e l.0 a l.1 all)
lead_fits setup w [] (a ∷ answers) w' l all = elim l [ ]
lead_fits setup w (e ∷ events) [] w' l all = elim l [ ]

pub lawful_fits : (setup : Setup) (events : List Event) (answers : List Answer) (w : World) → IsLawful setup events answers w → WorldInvariant setup w
lawful_fits setup events answers w lawful = lead_fits setup (first_world setup) events answers w lawful.leads (first_fits setup)
