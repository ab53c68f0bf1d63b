-- Lists of events tried by the function that computes a step: a list of events runs by itself.
use Rattle.std.specs.Prelude.{ℕ, Bool, true, false, List, [], ◌∷◌, length, Some, None, ◌+◌, ◌&&◌, nat_le, is_some}
use Rattle.std.specs.Prelude.{is_none}
use Rattle.std.specs.Option.{option_map_or}
use Rattle.bully_base.specs.Setup.{Setup}
use Rattle.bully_calls.specs.declared.call.Answer.{Answer}
use Rattle.bully_calls.specs.declared.event.Event.{Event}
use Rattle.bully_world.specs.Cause.{cause}
use Rattle.bully_world.specs.StepOf.{StepsResult, step_of, steps_of}
use Rattle.bully_world.specs.World.{World, first_world}

-- the list is lawful, as a test
abbrev pub is_lawful : Setup → List Event → Bool
is_lawful setup events = is_some (steps_of setup events) && nat_le (length events) setup.events_max

abbrev pub end_of : StepsResult → World
end_of None = record { states = [] }
end_of (Some r) = r.0

abbrev pub answers_of : StepsResult → List Answer
answers_of None = []
answers_of (Some r) = r.1

-- the world that the events lead to, and what they are answered
abbrev pub last_world : Setup → List Event → World
last_world setup events = end_of (steps_of setup events)

abbrev pub all_answers : Setup → List Event → List Answer
all_answers setup events = answers_of (steps_of setup events)

-- none of the events is refused, where so many were applied before
abbrev pub passes_from : Setup → World → ℕ → List Event → Bool
passes_from setup w count [] = true
passes_from setup w count (e ∷ events) =
    is_none (cause setup w count e)
    && option_map_or (λ t. passes_from setup t.0 (count + 1) events) (step_of setup w e) false

abbrev pub passes : Setup → List Event → Bool
passes setup events = passes_from setup (first_world setup) 0 events
