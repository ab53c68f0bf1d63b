-- Lists of events in which each call is whole: its start, its run or loss, and its return stand together.
use Rattle.std.specs.Prelude.{◌≡◌, ◌<◌, ◌⊎◌, ◌+◌, ◌++◌, ℕ, Bool, true, false, List, [], ◌∷◌, ◌&&◌, ◌==◌, length, take}
use Rattle.bully_calls.specs.declared.event.Event.{Event}

-- the event is no part of a call
abbrev pub stands_alone : Event → Bool
stands_alone (Event.Start i) = false
stands_alone (Event.Run i) = false
stands_alone (Event.Lose i) = false
stands_alone (Event.Return i) = false
stands_alone e = true

-- node i's call runs or is lost
abbrev pub settles : ℕ → Event → Bool
settles i (Event.Run j) = j == i
settles i (Event.Lose j) = j == i
settles i e = false

-- node i's call returns
abbrev pub gives_back : ℕ → Event → Bool
gives_back i (Event.Return j) = j == i
gives_back i e = false

-- a whole-call list: each Start is followed at once by that call's Run or Lose, and that at once by its Return,
-- and no other Run, Lose or Return stands in the list
abbrev pub is_whole : List Event → Bool
is_whole [] = true
is_whole (Event.Start i ∷ settled ∷ returned ∷ events) = settles i settled && (gives_back i returned && is_whole events)
is_whole (e ∷ events) = stands_alone e && is_whole events

-- the events are the beginning of a whole-call list
abbrev pub MayGoOn : List Event → Type 0
MayGoOn events = (rest : List Event) × (is_whole (events ++ rest) ≡ true)

-- the first place where the list breaks the rule. What stands before may go on. With the event at this place it
-- may not, or it is the list's end, in the middle of a call
abbrev pub BreaksAt : List Event → ℕ → Type 0
BreaksAt events index =
    MayGoOn (take index events)
    × (((index < length events) × ¬ MayGoOn (take (index + 1) events))
    ⊎ ((index ≡ length events) × (is_whole events ≡ false)))
