-- What a play of a configuration is, and the trace that is written of it.
use Rattle.std.specs.Prelude.{◌≡◌, ℕ, List, map, All, Any}
use Rattle.bully_base.specs.declared.TheConstants.{EVENTS_MAX}
use Rattle.bully_base.specs.Setup.{IsSetup, Setup}
use Rattle.bully_calls.specs.declared.call.Answer.{Answer}
use Rattle.bully_config.specs.Configuration.{Configuration}
use Rattle.bully_config.specs.declared.config.Fault.{Fault}
use Rattle.bully_config.specs.declared.config.FaultKind.{FaultKind}
use Rattle.bully_play.specs.declared.playing.PlayFault.{PlayFault}
use Rattle.bully_rows.specs.declared.trace.Row.{Row}
use Rattle.bully_rows.specs.declared.trace.TraceCause.{TraceCause}
use Rattle.bully_rows.specs.ReadBack.{IsTold}
use Rattle.bully_rows.specs.Trace.{Trace, trace_for}
use Rattle.bully_calls.specs.declared.event.Event.{Event}
use Rattle.bully_world.specs.Lawful.{IsLawful}
use Rattle.bully_world.specs.World.{World}

-- among the faults is one of this kind at this node
abbrev pub HasFault : List Fault → FaultKind → ℕ → Type 0
HasFault faults kind node = Any (λ fault. (fault.kind ≡ kind) × (fault.node ≡ node)) faults

-- a crash or a recovery is one of the faults
abbrev pub IsDue : List Fault → Event → Type 0
IsDue faults (Event.Crash i) = HasFault faults FaultKind.Crash i
IsDue faults (Event.Recover i) = HasFault faults FaultKind.Recover i
IsDue faults e = Unit {0}

-- the event of a fault
abbrev pub event_of_kind : FaultKind → ℕ → Event
event_of_kind FaultKind.Crash node = Event.Crash node
event_of_kind FaultKind.Recover node = Event.Recover node

abbrev pub event_of_fault : Fault → Event
event_of_fault fault = event_of_kind fault.kind fault.node

-- the setup of a trace's header, which has no bound on events: it is the profile's
abbrev pub trace_setup : Setup → Setup
trace_setup setup = record setup { events_max = EVENTS_MAX }

-- the trace of these events, in the first version that can tell the setup
abbrev pub trace_with : Setup → List Event → Trace
trace_with setup events = trace_for (trace_setup setup) (map Row.Event events)

-- the events are a play of the configuration: they are lawful with its bound on events, and so with a trace's,
-- and each crash and each recovery is one of its faults
pub record IsPlay (c : Configuration) (events : List Event) : Type 0 where
  pub answers : List Answer
  pub world : World
  pub lawful : IsLawful c.setup events answers world
  pub lawful_in_trace : IsLawful (trace_setup c.setup) events answers world
  pub due : All (IsDue c.faults) events

-- the trace of each lawful list of events is one that a text can tell
abbrev pub LawfulTold : Type 0
LawfulTold = (setup : Setup) (events : List Event) (answers : List Answer) (w : World) → IsSetup setup
    → IsLawful setup events answers w → IsTold (trace_with setup events)

-- the fault of a trace that isn't written
abbrev pub fault_of : TraceCause → PlayFault
fault_of TraceCause.OutOfMemory = PlayFault.OutOfMemory
fault_of _ = PlayFault.Write
