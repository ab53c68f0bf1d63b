-- How far the call at hand has come, as a list of events is gone through; and the fault of a run as that of whole
-- calls.
use Rattle.std.specs.Prelude.{Bool, true}
use Rattle.bully_calls.specs.declared.event.Event.{Event}
use Rattle.bully_agree.specs.declared.whole_calls.Progress.{Progress}
use Rattle.bully_agree.specs.declared.whole_calls.Progress.TheVariants.{Between, Started, Over}
use Rattle.bully_agree.specs.declared.runs.RunFault.{RunFault}
use Rattle.bully_agree.specs.declared.whole_calls.WholeFault.{WholeFault}
use Rattle.bully_agree.specs.WholeCalls.{stands_alone, settles, gives_back}

-- whether the event may stand here
abbrev pub may_stand : Progress → Event → Bool
may_stand Between (Event.Start i) = true
may_stand Between e = stands_alone e
may_stand (Started i) e = settles i e
may_stand (Over i) e = gives_back i e

-- the progress after it
abbrev pub progress_after : Progress → Event → Progress
progress_after Between (Event.Start i) = Started i
progress_after Between e = Between
progress_after (Started i) e = Over i
progress_after (Over i) e = Between

-- the fault of a run, where each call is whole
abbrev pub whole_fault : RunFault → WholeFault
whole_fault (RunFault.Stop index why) = WholeFault.Stop index why
whole_fault RunFault.OutOfMemory = WholeFault.OutOfMemory
