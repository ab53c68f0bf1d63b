-- The laws of each event, one file for each, and the nodes that it names.
use Rattle.std.proofs.Common.{◌≡◌, ◌≢◌, ◌∙◌, ℕ, ap, refl, sym, subst}
use Rattle.bully_base.specs.Setup.{Setup}
use Rattle.bully_calls.specs.declared.call.Answer.{Answer}
use Rattle.bully_calls.specs.declared.event.Event.{Event}
use Rattle.bully_calls.specs.Events.{node_of}
use Rattle.bully_world.specs.Step.{Step}
use Rattle.bully_world.specs.World.{World, node_state, vector}
use Rattle.bully_world.proofs.EventLaws.{OwnLaws, EventLaws, of_own}
use Rattle.bully_world.proofs.NodeStateLemmas.{node_state_other, node_of_pending, node_of_up}
use Rattle.bully_world.proofs.OwnEvents.{IsNoRun, is_own}
use Rattle.bully_world.proofs.Events.Recovering.{recover_laws}
use Rattle.bully_world.proofs.Events.Crashing.{crash_laws}
use Rattle.bully_world.proofs.Events.Checking.{check_laws, timeout_laws}
use Rattle.bully_world.proofs.Events.Starting.{start_laws}
use Rattle.bully_world.proofs.Events.Running.{run_laws}
use Rattle.bully_world.proofs.Events.Losing.{lose_laws}
use Rattle.bully_world.proofs.Events.Returning.{return_laws}
use Rattle.bully_world.proofs.Events.Dropping.{drop_laws}
use Rattle.bully_world.proofs.Events.Moving.{move_laws}
use Rattle.bully_world.proofs.Events.Planning.{plan_laws}
use Rattle.bully_calls.specs.declared.call.Outcome.TheVariants.{Moved}
use Rattle.bully_calls.specs.declared.call.Phase.{Phase}
use Rattle.bully_world.specs.NodeInvariant.{WorldInvariant}
use Rattle.bully_world.proofs.NameLemmas.{AllNameNodes, IsEventOf, balanced-nodes, kept-nodes, carried-nodes, written-names, phase-names, ran-names, emptied-names, proceeds-names, returns-names, planning-node}
pub mod Recovering
pub mod Crashing
pub mod Checking
pub mod Starting
pub mod Running
pub mod Losing
pub mod Returning
pub mod Dropping
pub mod Moving
pub mod Planning

pub own_laws : (setup : Setup) (e : Event) → IsNoRun e → OwnLaws setup e
own_laws setup (Event.Recover i) other = recover_laws setup i
own_laws setup (Event.Crash i) other = crash_laws setup i
own_laws setup (Event.Check i) other = check_laws setup i
own_laws setup (Event.Timeout i) other = timeout_laws setup i
own_laws setup (Event.Start i) other = start_laws setup i
own_laws setup (Event.Run i) other = absurd (other i refl)
own_laws setup (Event.Lose i) other = lose_laws setup i
own_laws setup (Event.Return i) other = return_laws setup i
own_laws setup (Event.Drop i) other = drop_laws setup i
own_laws setup (Event.Move i) other = move_laws setup i
own_laws setup (Event.Plan i table) other = plan_laws setup i table

-- an event of one node leaves the others as they were
pub own_other : (setup : Setup) (w w' : World) (e : Event) (a : Answer) (k : ℕ) → IsNoRun e → Step setup w e w' a → k ≢ node_of e → node_state w' k ≡ node_state w k
own_other setup w w' e a k own s d =
    let (m, is) = (own_laws setup e own).writes w w' a s in
    ap (λ (v : World). node_state v k) is ∙ node_state_other w (node_of e) k m d

by_own : (setup : Setup) (e : Event) → IsNoRun e → EventLaws setup e
by_own setup e other = of_own setup e (is_own setup e other) (own_laws setup e other)

-- what every event keeps
pub event_laws : (setup : Setup) (e : Event) → EventLaws setup e
event_laws setup (Event.Run i) = run_laws setup i
event_laws setup e = by_own setup e (λ i same. absurd (cc same))

-- ---- what it names

pub step-event : (setup : Setup) (w : World) (e : Event) (w' : World) (a : Answer) → WorldInvariant setup w → Step setup w e w' a → IsEventOf setup e
step-event setup w (Event.Recover i) w' a fits step = step.0
step-event setup w (Event.Crash i) w' a fits step = node_of_up setup w i fits step.0
step-event setup w (Event.Check i) w' a fits step = node_of_up setup w i fits step.0
step-event setup w (Event.Timeout i) w' a fits step = node_of_up setup w i fits step.0
step-event setup w (Event.Start i) w' a fits step = node_of_up setup w i fits step.0
step-event setup w (Event.Run i) w' a fits step = (node_of_pending setup w i step.0 fits step.1).0
step-event setup w (Event.Lose i) w' a fits step = (node_of_pending setup w i step.0 fits step.1).0
step-event setup w (Event.Return i) w' a fits step = (node_of_pending setup w i step.0 fits step.2).0
step-event setup w (Event.Drop i) w' a fits step = (node_of_pending setup w i step.0 fits step.1).0
step-event setup w (Event.Move i) w' a fits step = node_of_up setup w i fits step.0
step-event setup w (Event.Plan i table) w' a fits (at, free, size, balanced, is, answered) =
    let node = planning-node setup w i fits at in
    (node, size, balanced-nodes setup table i (vector w i).up node (fits.fits i).by_setup.up balanced)

pub step-names : (setup : Setup) (w : World) (e : Event) (w' : World) (a : Answer) → WorldInvariant setup w → Step setup w e w' a → AllNameNodes setup w → AllNameNodes setup w'
step-names setup w (Event.Recover i) w' a fits (node, down, is, answered) all =
    subst (AllNameNodes setup) (sym is)
    (written-names setup w i _ fits node (record { vector = (tt, kept-nodes setup (vector w i) (all i).vector.1); table = (all i).table }) all)
step-names setup w (Event.Crash i) w' a fits (up, is, answered) all =
    subst (AllNameNodes setup) (sym is)
    (written-names setup w i _ fits (node_of_up setup w i fits up) (record { vector = (tt, kept-nodes setup (vector w i) (all i).vector.1); table = tt }) all)
step-names setup w (Event.Check i) w' a fits (up, idle, is, answered) all =
    subst (AllNameNodes setup) (sym is)
    (written-names setup w i _ fits (node_of_up setup w i fits up) (record { vector = (all i).vector; table = (all i).table }) all)
step-names setup w (Event.Timeout i) w' a fits (up, idle, is, answered) all =
    subst (AllNameNodes setup) (sym is)
    (written-names setup w i _ fits (node_of_up setup w i fits up) (record { vector = (all i).vector; table = (all i).table }) all)
step-names setup w (Event.Start i) w' a fits (up, free, call, offers, is, answered) all =
    subst (AllNameNodes setup) (sym is)
    (written-names setup w i _ fits (node_of_up setup w i fits up) (record { vector = (all i).vector; table = carried-nodes setup call.kind (vector w i) (all i).vector.1 }) all)
step-names setup w (Event.Run i) w' a fits (c, there, phase, up, is, answered) all =
    subst (AllNameNodes setup) (sym is) (ran-names setup w i c fits there (node_of_up setup w c.call.callee fits up) all)
step-names setup w (Event.Lose i) w' a fits (c, there, phase, down, is, answered) all =
    subst (AllNameNodes setup) (sym is) (phase-names setup w i c Phase.Failed fits there all)
step-names setup w (Event.Return i) w' a fits (c, o, there, outcome, returns) all =
    returns-names setup w i c.is_live o w' a fits (node_of_pending setup w i c fits there).0 returns all
step-names setup w (Event.Drop i) w' a fits (c, there, orphan, is, answered) all =
    subst (AllNameNodes setup) (sym is) (emptied-names setup w i fits (node_of_pending setup w i c fits there).0 all)
step-names setup w (Event.Move i) w' a fits (up, free, offers, proceeds, answered) all =
    proceeds-names setup w i Moved w' fits (node_of_up setup w i fits up) proceeds all
step-names setup w (Event.Plan i table) w' a fits (at, free, size, balanced, is, answered) all =
    let node = planning-node setup w i fits at in
    subst (AllNameNodes setup) (sym is)
    (written-names setup w i _ fits node (record { vector = ((all i).vector.0, balanced-nodes setup table i (vector w i).up node (fits.fits i).by_setup.up balanced); table = tt }) all)
