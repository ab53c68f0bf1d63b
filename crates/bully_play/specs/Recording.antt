-- What is recorded while a configuration is played.
use Rattle.std.specs.Prelude.{◌≡◌, ◌≤◌, ◌+◌, ◌⊎◌, ◌++◌, ℕ, if◌then◌else◌, List, [], ◌∷◌, length, map, All, MatchOption}
use Rattle.bully_calls.specs.declared.call.Answer.{Answer}
use Rattle.bully_config.specs.Configuration.{Configuration}
use Rattle.bully_play.specs.Play.{IsDue}
use Rattle.bully_steps.specs.ProcedureState.{ProcedureState}
use Rattle.bully_rows.specs.declared.trace.Row.{Row}
use Rattle.bully_calls.specs.declared.event.Event.{Event}
use Rattle.bully_world.specs.Lawful.{IsLawful}
use Rattle.bully_world.specs.State.{WorldState, state_at, world_of, cause_in, raises}
use Rattle.bully_world.specs.Step.{Step}
use Rattle.bully_world.specs.Turn.{step_event, procedure_after}
use Rattle.bully_world.specs.declared.turn.StepKind.{StepKind}

-- a world, and a row for each event that led to it
pub record RecordingState : Type 0 where
  pub world : WorldState
  pub rows : List Row

-- the rows are those of a lawful list of events that leads to the world, whose crashes and recoveries are faults of
-- the configuration
pub record IsRecorded (c : Configuration) (r : RecordingState) : Type 0 where
  pub setup : r.world.setup ≡ c.setup
  pub events : List Event
  pub answers : List Answer
  pub rows : r.rows ≡ map Row.Event events
  pub lawful : IsLawful c.setup events answers (world_of r.world)
  pub counted : length events ≡ r.world.events
  pub due : All (IsDue c.faults) events

-- the event is applied, and a row is added for it
pub record AddsRow (e : Event) (before after : RecordingState) : Type 0 where
  pub answer : Answer
  pub step : Step before.world.setup (world_of before.world) e (world_of after.world) answer
  pub setup : after.world.setup ≡ before.world.setup
  pub counted : after.world.events ≡ before.world.events + 1
  pub bounded : after.world.events ≤ after.world.setup.events_max
  pub generations : (i : ℕ) → (state_at after.world i).generation
      ≡ (state_at before.world i).generation + (if raises (world_of before.world) e i then 1 else 0)
  pub rows : after.rows ≡ before.rows ++ Row.Event e ∷ []

-- the event is applied and recorded where nothing refuses it, else it is passed over
abbrev pub Applies : Event → RecordingState → RecordingState → Type 0
Applies e before after = MatchOption (cause_in before.world e) (AddsRow e before after) (λ why. after ≡ before)

-- the procedure takes a step, which is recorded, and goes on by it; where the bound on events is reached, nothing
-- changes
abbrev pub Steps : StepKind → RecordingState → ProcedureState → RecordingState → ProcedureState → Type 0
Steps kind before h after h' =
    ((r : AddsRow (step_event kind h) before after) × (h' ≡ procedure_after kind r.answer h))
    ⊎ ((before.world.setup.events_max ≤ before.world.events) × (after ≡ before) × (h' ≡ h))

-- whatever happens, it is recorded, and no fault is needed for it but those of the configuration
pub record Continues (before after : RecordingState) : Type 0 where
  pub setup : after.world.setup ≡ before.world.setup
  pub recorded : (c : Configuration) → IsRecorded c before → IsRecorded c after
