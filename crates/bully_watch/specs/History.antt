-- What a group's history is: lawful events with their answers, each of the actor whose event it is.
use Rattle.std.specs.Prelude.{◌≡◌, ◌==◌, ◌+◌, ℕ, List, [], ◌∷◌, map, Some, if◌then◌else◌}
pub use Rattle.bully_agree.specs.Actors.{operator, callee_of, whose}
use Rattle.bully_base.specs.Setup.{Setup}
use Rattle.bully_calls.specs.declared.call.Answer.{Answer}
use Rattle.bully_calls.specs.declared.event.Event.{Event}
use Rattle.bully_world.specs.Lawful.{IsLawful}
use Rattle.bully_world.specs.Step.{Step}
use Rattle.bully_world.specs.World.{World, first_world}
use Rattle.bully_watch.specs.declared.entry.Entry.{Entry}

abbrev pub event_of : Entry → Event
event_of e = e.event

abbrev pub answer_of : Entry → Answer
answer_of e = e.answer

-- each entry is of the actor whose event it is in the world that those before it lead to
abbrev pub AreActors : Setup → World → List Entry → Type 0
AreActors setup w [] = Unit {0}
AreActors setup w (e ∷ entries) =
    (whose w e.event ≡ Some e.actor) × ((mid : World) → Step setup w e.event mid e.answer → AreActors setup mid entries)

-- the entries are a history that leads to w: their events are lawful, with these answers, and the actors are those
-- whose events they are
pub record IsHistory (setup : Setup) (entries : List Entry) (w : World) : Type 0 where
  pub lawful : IsLawful setup (map event_of entries) (map answer_of entries) w
  pub actors : AreActors setup (first_world setup) entries

-- the part of an actor: its entries, each beside its index, in rising order; indices are counted from the first
-- number
abbrev pub part_from : ℕ → ℕ → List Entry → List (ℕ × Entry)
part_from at actor [] = []
part_from at actor (e ∷ entries) =
    if e.actor == actor then (at, e) ∷ part_from (at + 1) actor entries else part_from (at + 1) actor entries

abbrev pub part : ℕ → List Entry → List (ℕ × Entry)
part actor entries = part_from 0 actor entries
