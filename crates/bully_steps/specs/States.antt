-- What each typed state of a procedure holds.
use Rattle.std.specs.Prelude.{ℕ, Bool, false, [], List, Option, Some, None}
use Rattle.bully_base.specs.Setup.{Setup}
use Rattle.bully_steps.specs.declared.point.Point.{Point}
use Rattle.bully_steps.specs.ProcedureState.{ProcedureState, procedure_state}

-- whose procedure it is
pub record Identity : Type 0 where
  pub setup : Setup
  pub node : ℕ
  pub generation : ℕ

pub record IdleState : Type 0 where
  pub identity : Identity

-- one that calls other nodes
pub record CallingState (T : Type 0) : Type 0 where
  pub identity : Identity
  pub held : T
  pub awaits : Bool

pub record PlanningState : Type 0 where
  pub identity : Identity
  pub up : List ℕ

pub record PlannedState : Type 0 where
  pub identity : Identity
  pub up : List ℕ
  pub table : List ℕ

abbrev pub identity_of : ProcedureState → Identity
identity_of h = record { setup = h.setup; node = h.node; generation = h.generation }

abbrev pub state_at : Identity → Point → List ℕ → Option ℕ → Bool → ProcedureState
state_at whose point up coordinator awaits =
    procedure_state whose.setup whose.node whose.generation point up coordinator awaits

abbrev pub idle : IdleState → ProcedureState
idle s = state_at s.identity Point.Idle [] None false

abbrev pub planning : PlanningState → ProcedureState
planning s = state_at s.identity Point.Planning s.up None false

abbrev pub planned : PlannedState → ProcedureState
planned s = record (state_at s.identity Point.Planning s.up None false) { table = Some s.table }
