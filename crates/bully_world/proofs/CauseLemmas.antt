-- An event has no cause of refusal exactly where it can happen.
use Rattle.std.proofs.Common.{◌≡◌, ◌<◌, ℕ, None}
use Rattle.bully_base.specs.Setup.{Setup}
use Rattle.bully_calls.specs.declared.call.Answer.{Answer}
use Rattle.bully_calls.specs.declared.event.Event.{Event}
use Rattle.bully_world.specs.Cause.{cause}
use Rattle.bully_world.specs.NodeInvariant.{WorldInvariant}
use Rattle.bully_world.specs.Step.{Step}
use Rattle.bully_world.specs.World.{World}
use Rattle.bully_world.proofs.ApplyLemmas.{room_of}
use Rattle.bully_world.proofs.Events.{event_laws}

pub no_cause_if_step : (setup : Setup) (w : World) (count : ℕ) (e : Event) (w' : World) (a : Answer) → WorldInvariant setup w → count < setup.events_max → Step setup w e w' a → cause setup w count e ≡ None
no_cause_if_step setup w count e w' a = (event_laws setup e).free w w' count a

pub step_if_no_cause : (setup : Setup) (w : World) (count : ℕ) (e : Event) → WorldInvariant setup w → cause setup w count e ≡ None → (count < setup.events_max) × (w' : World) × (a : Answer) × Step setup w e w' a
step_if_no_cause setup w count e all none =
    let s = (event_laws setup e).possible w count all none in
    (room_of setup w count e none, s.0, s.1, s.2)
