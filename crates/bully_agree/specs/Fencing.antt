-- The last plan of a list of events, and its token.
use Rattle.std.specs.Prelude.{◌≡◌, ◌+◌, ◌++◌, ◌||◌, ℕ, Bool, true, false, List, [], ◌∷◌, length, Option, None, Some}
use Rattle.bully_calls.specs.declared.event.Event.{Event}
use Rattle.bully_world.specs.World.{World, vector}

abbrev pub is_plan : Event → Bool
is_plan (Event.Plan i table) = true
is_plan e = false

-- there is a plan among the events
abbrev pub has_plan : List Event → Bool
has_plan [] = false
has_plan (e ∷ events) = is_plan e || has_plan events

-- a plan in a list of events: whose it is, its table, and its token, which is how many events there are up to it and
-- with it
pub record Planned : Type 0 where
  pub planner : ℕ
  pub table : List ℕ
  pub token : ℕ

-- it is the last plan of the events
pub record IsLastPlan (events : List Event) (p : Planned) : Type 0 where
  pub before : List Event
  pub after : List Event
  pub parts : events ≡ before ++ Event.Plan p.planner p.table ∷ after
  pub last : has_plan after ≡ false
  pub counted : p.token ≡ length before + 1

-- node i goes by the plan: its coordinator is the planner, and its task the table
pub record GoesBy (w : World) (i : ℕ) (p : Planned) : Type 0 where
  pub coordinator : (vector w i).coordinator ≡ Some p.planner
  pub task : (vector w i).task ≡ Some p.table

-- nodes i of w and j of v have the same coordinator and the same task
pub record GoAlike (w : World) (i : ℕ) (v : World) (j : ℕ) : Type 0 where
  pub coordinator : (vector w i).coordinator ≡ (vector v j).coordinator
  pub task : (vector w i).task ≡ (vector v j).task

-- the last plan after one event more, where there were so many events
abbrev pub plan_then : ℕ → Option Planned → Event → Option Planned
plan_then count last (Event.Plan i table) = Some (record { planner = i; table = table; token = count + 1 })
plan_then count last e = last

-- the last plan of the events, where there is one
abbrev pub IsLast : List Event → Option Planned → Type 0
IsLast events None = has_plan events ≡ false
IsLast events (Some p) = IsLastPlan events p
