-- What a procedure holds, when it may hold it, and where it goes on.
use Rattle.std.specs.Prelude.{◌≡◌, ◌≢◌, ℕ, Bool, true, false, [], length, List, Option, Some, None, IfSome, unwrap_or}
use Rattle.std.specs.Prelude.{if◌then◌else◌}
use Rattle.bully_base.specs.NodeSet.{with_node, IsFallingBelow}
use Rattle.bully_base.specs.Setup.{Setup, IsSetup, IsNode}
use Rattle.bully_calls.specs.declared.call.Outcome.{Outcome}
use Rattle.bully_calls.specs.declared.call.Outcome.TheVariants.{Started, Moved, Planned, Yes, No, Failed}
use Rattle.bully_handlers.specs.Vector.{empty_vector}
use Rattle.bully_steps.specs.declared.point.Point.{Point}
use Rattle.bully_steps.specs.declared.point.Point.TheVariants.{Halting, Announcing, Planning, Checking, Inquiring}
use Rattle.bully_steps.specs.declared.point.Want.{Want}
use Rattle.bully_steps.specs.declared.point.Want.TheVariants.{Start, Move, Plan, Await}
use Rattle.bully_steps.specs.NextPoint.{next_point, next_vector}
use Rattle.bully_steps.specs.Point.{offered, IsPointOf}
use Rattle.bully_table.specs.Balance.{IsBalanced}

-- a procedure of a node: where it stands, and what it holds there
pub record ProcedureState : Type 0 where
  pub setup : Setup
  pub node : ℕ
  pub generation : ℕ
  pub point : Point
  -- the lower nodes that answered, while they are gathered, announced to and planned for
  pub up : Option (List ℕ)
  -- whom it inquires of
  pub coordinator : Option ℕ
  -- the planned table
  pub table : Option (List ℕ)
  -- its call is under way
  pub awaits : Bool

-- the up set is held at Halting, Announcing and Planning
abbrev pub up_at : Point → List ℕ → Option (List ℕ)
up_at (Halting k) up = Some up
up_at (Announcing rest) up = Some up
up_at Planning up = Some up
up_at _ up = None

-- the coordinator is held at Inquiring
abbrev pub coordinator_at : Point → Option ℕ → Option ℕ
coordinator_at Inquiring coordinator = coordinator
coordinator_at _ coordinator = None

-- the procedure there, without a planned table
abbrev pub procedure_state : Setup → ℕ → ℕ → Point → List ℕ → Option ℕ → Bool → ProcedureState
procedure_state setup node generation point up coordinator awaits = record {
  setup = setup;
  node = node;
  generation = generation;
  point = point;
  up = up_at point up;
  coordinator = coordinator_at point coordinator;
  table = None;
  awaits = awaits;
}

-- the procedure is one of the same node, in the same group
pub record HasSameNode (h other : ProcedureState) : Type 0 where
  pub setup : other.setup ≡ h.setup
  pub node : other.node ≡ h.node

-- a call is offered
abbrev pub IsCall : Want → Type 0
IsCall (Start call) = Unit {0}
IsCall _ = ⊥

-- whom the node inquires of is another node of the setup
abbrev pub IsOther : Setup → ℕ → Option ℕ → Type 0
IsOther setup i None = ⊥
IsOther setup i (Some k) = IsNode setup k × (k ≢ i)

-- this coordinator will do at the point
abbrev pub SuitsInquiry : Setup → ℕ → Option ℕ → Point → Type 0
SuitsInquiry setup i coordinator Inquiring = IsOther setup i coordinator
SuitsInquiry setup i coordinator _ = Unit {0}

-- the table of the setup's partitions is balanced over node i and its up set
pub record IsPlannedOver (setup : Setup) (i : ℕ) (up table : List ℕ) : Type 0 where
  pub partitions : length table ≡ setup.partitions
  pub balanced : IsBalanced setup table (with_node i up)

-- a table is held at Planning alone
abbrev pub SuitsPlan : ProcedureState → Option (List ℕ) → Type 0
SuitsPlan h None = Unit {0}
SuitsPlan h (Some table) = (h.point ≡ Planning) × IfSome h.up (λ up. IsPlannedOver h.setup h.node up table)

-- what holds of every procedure
pub record IsProcedureState (h : ProcedureState) : Type 0 where
  pub setup : IsSetup h.setup
  pub node : IsNode h.setup h.node
  pub point : IsPointOf h.setup h.node h.point
  pub has_up : h.up ≡ up_at h.point (unwrap_or h.up [])
  pub up : IfSome h.up (IsFallingBelow h.node)
  pub has_coordinator : h.coordinator ≡ coordinator_at h.point h.coordinator
  pub inquiry : SuitsInquiry h.setup h.node h.coordinator h.point
  -- its call is one that the point offers
  pub call : h.awaits ≡ true → IsCall (offered h.setup h.coordinator h.point)
  pub plan : SuitsPlan h h.table

-- what the procedure wants
abbrev pub want_of : ProcedureState → Want
want_of h = if h.awaits then Await else offered h.setup h.coordinator h.point

-- an outcome that a want can have at the point. No comes of AreYouNormal alone
abbrev pub CanCome : Want → Point → Outcome → Type 0
CanCome (Start call) p Started = Unit {0}
CanCome Move p Moved = Unit {0}
CanCome Plan p Planned = Unit {0}
CanCome Await p Yes = Unit {0}
CanCome Await p Failed = Unit {0}
CanCome Await (Checking k) No = Unit {0}
CanCome _ _ _ = ⊥

abbrev pub CanResume : ProcedureState → Outcome → Type 0
CanResume h o = CanCome (want_of h) h.point o

-- the up set that goes with the next point
abbrev pub next_up : ℕ → Point → Outcome → List ℕ → List ℕ
next_up i p o up = (next_vector i p o (record empty_vector { up = up })).up

-- a call is under way from its start on
abbrev pub is_started : Outcome → Bool
is_started Started = true
is_started _ = false

-- the point to which the outcome leads the procedure, if it can come there
abbrev pub next_of : ProcedureState → Outcome → Option Point
next_of h o = next_point h.setup h.node (unwrap_or h.up []) h.point o

-- where the procedure goes on by the outcome
abbrev pub resumed_point : ProcedureState → Outcome → Point
resumed_point h o = unwrap_or (next_of h o) h.point

-- and the up set with which it does
abbrev pub resumed_up : ProcedureState → Outcome → List ℕ
resumed_up h o = next_up h.node h.point o (unwrap_or h.up [])

-- the procedure that the outcome makes of it
abbrev pub resumed : ProcedureState → Outcome → ProcedureState
resumed h o =
    procedure_state h.setup h.node h.generation (resumed_point h o) (resumed_up h o) h.coordinator (is_started o)
