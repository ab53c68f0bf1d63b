-- Where a run of events stops.
use Rattle.std.specs.Prelude.{◌≡◌, ℕ, true, false, List, take, slice_get, Some}
use Rattle.bully_base.specs.Setup.{Setup}
use Rattle.bully_calls.specs.declared.call.Answer.{Answer}
use Rattle.bully_calls.specs.declared.event.Event.{Event}
use Rattle.bully_calls.specs.declared.event.Refused.{Refused}
use Rattle.bully_world.specs.Cause.{cause}
use Rattle.bully_world.specs.Lawful.{IsLawful}
use Rattle.bully_world.specs.World.{World}
use Rattle.bully_agree.specs.declared.runs.RunFault.{RunFault}
use Rattle.bully_agree.specs.declared.whole_calls.WholeFault.{WholeFault}
use Rattle.bully_agree.specs.WholeCalls.{is_whole, BreaksAt}

-- the events are lawful, and lead to w
abbrev pub RunsTo : Setup → List Event → World → Type 0
RunsTo setup events w = (answers : List Answer) × IsLawful setup events answers w

-- the events are lawful
abbrev pub CanRun : Setup → List Event → Type 0
CanRun setup events = (w : World) × RunsTo setup events w

-- the events before the index are lawful, so that none of them has a cause, and in the world that they lead to the
-- event at the index has this one
pub record StopsAt (setup : Setup) (events : List Event) (index : ℕ) (why : Refused) : Type 0 where
  pub event : Event
  pub answers : List Answer
  pub world : World
  pub there : slice_get events index ≡ Some event
  pub lawful : IsLawful setup (take index events) answers world
  pub refused : cause setup world index event ≡ Some why

-- what a fault of a run says of the events; want of memory says nothing
abbrev pub IsRunFault : Setup → List Event → RunFault → Type 0
IsRunFault setup events (RunFault.Stop index why) = StopsAt setup events index why
IsRunFault setup events RunFault.OutOfMemory = Unit {0}

-- the same of a run of whole calls: only a whole-call list is run
abbrev pub IsWholeFault : Setup → List Event → WholeFault → Type 0
IsWholeFault setup events (WholeFault.NotWhole index) = BreaksAt events index × (is_whole events ≡ false)
IsWholeFault setup events (WholeFault.Stop index why) = StopsAt setup events index why × (is_whole events ≡ true)
IsWholeFault setup events WholeFault.OutOfMemory = is_whole events ≡ true
