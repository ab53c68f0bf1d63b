-- What the operator and a node do in a turn.
use Rattle.std.specs.Prelude.{◌≡◌, ◌+◌, ◌++◌, ℕ, zero, suc, Bool, true, false, List, [], ◌∷◌, map, None, ◌==◌}
use Rattle.std.specs.Bool.{MatchBool}
use Rattle.bully_base.specs.Setup.{Setup}
use Rattle.bully_config.specs.Configuration.{Configuration}
use Rattle.bully_config.specs.declared.config.Fault.{Fault}
use Rattle.bully_play.specs.Play.{event_of_fault}
use Rattle.bully_play.specs.Recording.{RecordingState, Applies, Steps}
use Rattle.bully_steps.specs.declared.driver.Choice.{Choice}
use Rattle.bully_steps.specs.declared.point.Point.TheVariants.{Idle}
use Rattle.bully_steps.specs.Driver.{chosen_every}
use Rattle.bully_steps.specs.Prepared.{prepared_from}
use Rattle.bully_steps.specs.ProcedureState.{ProcedureState, procedure_state}
use Rattle.bully_rows.specs.declared.trace.Row.{Row}
use Rattle.bully_calls.specs.declared.event.Event.{Event}
use Rattle.bully_world.specs.declared.turn.Next.{Next}
use Rattle.bully_world.specs.Serving.{IsServed, NoneServed}
use Rattle.bully_world.specs.State.{WorldState, state_at, first_state}
use Rattle.bully_world.specs.Turn.{procedure_in, turn}

-- from the task that the procedure's node has
abbrev pub prepared : WorldState → ProcedureState → ProcedureState
prepared w h = prepared_from (state_at w h.node).vector.vector.task h

-- node i serves: the call of the lowest caller that waits for it runs. It serves nobody where it is Down or none waits
abbrev pub RunsLowest : RecordingState → ℕ → Bool → RecordingState → Type 0
RunsLowest before i true after = (caller : ℕ) × IsServed before.world i caller × Applies (Event.Run caller) before after
RunsLowest before i false after = (after ≡ before) × NoneServed before.world i

-- what the procedure does where the turn rule offers this
abbrev pub GoesBy : Next → RecordingState → ProcedureState → RecordingState → ProcedureState → Type 0
GoesBy Next.Resync before h after h' = (after ≡ before) × (h' ≡ procedure_in before.world h.node)
GoesBy Next.Rest before h after h' = (after ≡ before) × (h' ≡ h)
GoesBy (Next.Take kind) before h after h' = Steps kind before h after h'

-- What a turn is, over any state S of what it is taken on. There `applies` is what an event does, `serves` whether a
-- node serves a call and what that does, and `proceeds` what a procedure does by the turn rule. `prepares` says which
-- procedure another one is prepared to, and `takes` what comes then in one piece: the node serves, or else does what it
-- chose

-- the node does what it chose
abbrev pub GoesOn : {S : Type 0} → (Event → S → S → Type 0) → (S → ProcedureState → S → ProcedureState → Type 0)
    → Choice → S → ProcedureState → S → ProcedureState → Type 0
GoesOn applies proceeds Choice.Check before h after h' = applies (Event.Check h.node) before after × (h' ≡ h)
GoesOn applies proceeds Choice.Timeout before h after h' = applies (Event.Timeout h.node) before after × (h' ≡ h)
GoesOn applies proceeds Choice.Proceed before h after h' = proceeds before h after h'

-- a node that served does nothing else in its turn
abbrev pub Follows : {S : Type 0} → (Event → S → S → Type 0) → (S → ProcedureState → S → ProcedureState → Type 0) → Bool
    → Choice → S → ProcedureState → S → ProcedureState → Type 0
Follows applies proceeds true choice before h after h' = (after ≡ before) × (h' ≡ h)
Follows applies proceeds false choice before h after h' = GoesOn applies proceeds choice before h after h'

-- the node serves, or else does what it chose
abbrev pub ServesOrGoesOn : {S : Type 0} → (Event → S → S → Type 0) → (S → ℕ → Bool → S → Type 0)
    → (S → ProcedureState → S → ProcedureState → Type 0) → Choice → S → ProcedureState → S → ProcedureState → Type 0
ServesOrGoesOn {S} applies serves proceeds choice before h after h' =
    (served : Bool) × (mid : S) × serves before h.node served mid
    × Follows applies proceeds served choice mid h after h'

-- a node's turn of this number, with the procedure that it holds: it is prepared, and then the node serves, or else
-- goes on as it chooses, where a node checks once in a period
abbrev pub IsTurnOn : {S : Type 0} → (S → ProcedureState → ProcedureState → Type 0) → (Choice → S → ProcedureState → S
    → ProcedureState → Type 0) → ℕ → ℕ → S → ProcedureState → S → ProcedureState → Type 0
IsTurnOn prepares takes period number before h after h' =
    (ready : ProcedureState) × prepares before h ready
    × takes (chosen_every period number ready.point) before ready after h'

-- the operator's turn: the faults of that turn, one after the other
abbrev pub OperatesOn : {S : Type 0} → (Event → S → S → Type 0) → ℕ → List Fault → S → S → Type 0
OperatesOn {S} applies number [] before after = after ≡ before
OperatesOn {S} applies number (fault ∷ faults) before after =
    MatchBool (fault.at == number)
    ((mid : S) × applies (event_of_fault fault) before mid × OperatesOn applies number faults mid after)
    (OperatesOn applies number faults before after)

-- Turns on a world whose events are recorded

-- a procedure is prepared from the task that its node has
abbrev pub Prepares : RecordingState → ProcedureState → ProcedureState → Type 0
Prepares before h ready = ready ≡ prepared before.world h

-- the procedure goes on by the turn rule
abbrev pub ProceedsIn : RecordingState → ProcedureState → RecordingState → ProcedureState → Type 0
ProceedsIn before h after h' = GoesBy (turn before.world h) before h after h'

-- the node serves, or else does what it chose
abbrev pub TakesIn : Choice → RecordingState → ProcedureState → RecordingState → ProcedureState → Type 0
TakesIn choice before h after h' = ServesOrGoesOn Applies RunsLowest ProceedsIn choice before h after h'

abbrev pub IsTurn : ℕ → ℕ → RecordingState → ProcedureState → RecordingState → ProcedureState → Type 0
IsTurn period number before h after h' = IsTurnOn Prepares TakesIn period number before h after h'

abbrev pub Operates : ℕ → List Fault → RecordingState → RecordingState → Type 0
Operates number faults before after = OperatesOn Applies number faults before after

-- the turns of the nodes that hold these procedures, one after the other
abbrev pub TakeTurns : ℕ → ℕ → RecordingState → List ProcedureState → RecordingState → List ProcedureState → Type 0
TakeTurns period number before [] after hs' = (after ≡ before) × (hs' ≡ [])
TakeTurns period number before (h ∷ hs) after [] = ⊥
TakeTurns period number before (h ∷ hs) after (h' ∷ hs') =
    (mid : RecordingState) × IsTurn period number before h mid h' × TakeTurns period number mid hs after hs'

-- a round: the operator's turn of this number, and then each node's
abbrev pub IsRound : List Fault → ℕ → ℕ → RecordingState → List ProcedureState → RecordingState → List ProcedureState
    → Type 0
IsRound faults period number before hs after hs' =
    (mid : RecordingState) × Operates number faults before mid × TakeTurns period number mid hs after hs'

-- so many rounds, the first of which has this number
abbrev pub Rounds : List Fault → ℕ → ℕ → ℕ → RecordingState → List ProcedureState → RecordingState → List ProcedureState
    → Type 0
Rounds faults period zero number before hs after hs' = (after ≡ before) × (hs' ≡ hs)
Rounds faults period (suc more) number before hs after hs' =
    (mid : RecordingState) × (between : List ProcedureState) × IsRound faults period number before hs mid between
    × Rounds faults period more (number + 1) mid between after hs'

abbrev pub idle_at : Setup → ℕ → ProcedureState
idle_at setup i = procedure_state setup i 0 Idle [] None false

-- what the first n nodes hold at first
abbrev pub idle_first : Setup → ℕ → List ProcedureState
idle_first setup zero = []
idle_first setup (suc n) = idle_first setup n ++ idle_at setup (n + 1) ∷ []

abbrev pub first_recording : Setup → RecordingState
first_recording setup = record { world = first_state setup; rows = [] }

-- the events are those of the configuration's rounds
pub record IsScheduled (c : Configuration) (events : List Event) : Type 0 where
  pub last : RecordingState
  pub procedures : List ProcedureState
  pub rounds : Rounds c.faults c.period c.turns 1 (first_recording c.setup)
      (idle_first c.setup c.setup.nodes) last procedures
  pub rows : last.rows ≡ map Row.Event events
