-- Events by their words.
use Rattle.std.specs.Prelude.{ℕ, List, Option, option_map}
use Rattle.bully_calls.specs.declared.event.Event.{Event}
use Rattle.bully_calls.specs.declared.kind.EventKind.{EventKind}
use Rattle.bully_calls.specs.Events.{event_at, kind_named, word_of}

abbrev pub plan_word : List ℕ
plan_word = word_of EventKind.Plan

-- the event of this word at node i, where it is one that names a node and no more
abbrev pub event_named : List ℕ → ℕ → Option Event
event_named word i = option_map (λ kind. event_at kind i) (kind_named word)
