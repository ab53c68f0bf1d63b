-- The procedure that a world shows of a node, whether the one that the node holds is in step with the world, and
-- what the turn rule has it do.
use Rattle.std.specs.Prelude.{ℕ, ◌==◌, ◌&&◌, Bool, true, false, not, List, [], Option, Some, None, bytes_eq, unwrap_or}
use Rattle.std.specs.Prelude.{if◌then◌else◌}
use Rattle.std.specs.Option.{option_map_or, option_eq}
use Rattle.bully_base.specs.Setup.{Setup}
use Rattle.bully_calls.specs.declared.call.Answer.{Answer}
use Rattle.bully_calls.specs.declared.call.Outcome.{Outcome}
use Rattle.bully_calls.specs.declared.call.Phase.{Phase}
use Rattle.bully_calls.specs.Pending.{Pending}
use Rattle.bully_steps.specs.declared.point.Point.{Point}
use Rattle.bully_steps.specs.declared.point.Point.TheVariants.{Idle, Asking, Halting, Announcing, Planning, Readying}
use Rattle.bully_steps.specs.declared.point.Point.TheVariants.{Checking, Inquiring}
use Rattle.bully_steps.specs.declared.point.Want.{Want}
use Rattle.bully_steps.specs.ProcedureState.{ProcedureState, procedure_state, want_of, resumed}
use Rattle.bully_calls.specs.declared.event.Event.{Event}
use Rattle.bully_calls.specs.declared.kind.EventKind.{EventKind}
use Rattle.bully_calls.specs.declared.kind.NodeEventKind.{NodeEventKind}
use Rattle.bully_calls.specs.Events.{event_at}
use Rattle.bully_world.specs.declared.turn.Next.{Next}
use Rattle.bully_world.specs.declared.turn.Next.TheVariants.{Resync, Rest, Take}
use Rattle.bully_world.specs.declared.turn.StepKind.{StepKind}
use Rattle.bully_world.specs.declared.turn.StepKind.TheVariants.{Start, Lose, Return, Drop, Move, Plan}
use Rattle.bully_world.specs.Cause.{is_down_at, is_live_in}
use Rattle.bully_world.specs.State.{WorldState, StoredNode, state_at, node_state_of, world_of}
use Rattle.bully_world.specs.World.{World}

-- the procedure of node i that what is kept of it shows; it awaits exactly where a live call of i is pending
abbrev pub procedure_by : Setup → ℕ → StoredNode → ProcedureState
procedure_by setup i s =
    let m = node_state_of s in
    procedure_state setup i s.generation m.point m.vector.up m.vector.coordinator (is_live_in m.pending)

-- and that the world shows
abbrev pub procedure_in : WorldState → ℕ → ProcedureState
procedure_in w i = procedure_by w.setup i (state_at w i)

abbrev pub same_flag : Bool → Bool → Bool
same_flag true b = b
same_flag false b = not b

abbrev pub same_node : Option ℕ → Option ℕ → Bool
same_node j k = option_eq (λ a b. a == b) j k

abbrev pub same_set : Option (List ℕ) → Option (List ℕ) → Bool
same_set up other = option_eq bytes_eq up other

abbrev pub same_point : Point → Point → Bool
same_point Idle Idle = true
same_point (Asking k) (Asking j) = k == j
same_point (Halting k) (Halting j) = k == j
same_point (Announcing rest) (Announcing other) = bytes_eq rest other
same_point Planning Planning = true
same_point (Readying rest) (Readying other) = bytes_eq rest other
same_point (Checking k) (Checking j) = k == j
same_point Inquiring Inquiring = true
same_point p q = false

-- the procedures agree on generation, point and call, and on the up set or the coordinator that they hold
abbrev pub agree : ProcedureState → ProcedureState → Bool
agree h shown =
    (h.generation == shown.generation)
    && same_point h.point shown.point
    && same_flag h.awaits shown.awaits
    && same_set h.up shown.up
    && same_node h.coordinator shown.coordinator

-- the procedure is in step with the world: it agrees with the one that the world shows of its node
abbrev pub is_in_step : WorldState → ProcedureState → Bool
is_in_step w h = agree h (procedure_in w h.node)

-- the turn where the slot is full: what ran or failed returns; what was sent to a node that is Down is lost; and of
-- what was sent to a node that is up an orphan is dropped
abbrev pub turn_of_call : Bool → Bool → Phase → Next
turn_of_call callee_is_down is_live Phase.Sent = if callee_is_down then Take Lose else if is_live then Rest else
    Take Drop
turn_of_call callee_is_down is_live (Phase.Ran answer) = Take Return
turn_of_call callee_is_down is_live Phase.Failed = Take Return

-- the turn where the slot is empty: what is wanted, a plan only with its table
abbrev pub turn_of_want : Bool → Want → Next
turn_of_want has_table Want.Nothing = Rest
turn_of_want has_table (Want.Start call) = Take Start
turn_of_want has_table Want.Move = Take Move
turn_of_want has_table Want.Plan = if has_table then Take Plan else Rest
turn_of_want has_table Want.Await = Rest

abbrev pub has_table : ProcedureState → Bool
has_table h = option_map_or (λ table. true) h.table false

-- the turn of a procedure that is in step, by the call in its node's slot
abbrev pub turn_in_step : World → Option Pending → ProcedureState → Next
turn_in_step w None h = turn_of_want (has_table h) (want_of h)
turn_in_step w (Some c) h = turn_of_call (is_down_at w c.call.callee) c.is_live c.phase

-- the turn rule
abbrev pub turn : WorldState → ProcedureState → Next
turn w h = if is_in_step w h then turn_in_step (world_of w) (node_state_of (state_at w h.node)).pending h else Resync

-- what the event of such a step is
abbrev pub kind_of_step : StepKind → EventKind
kind_of_step Start = EventKind.Node NodeEventKind.Start
kind_of_step Lose = EventKind.Node NodeEventKind.Lose
kind_of_step Return = EventKind.Node NodeEventKind.Return
kind_of_step Drop = EventKind.Node NodeEventKind.Drop
kind_of_step Move = EventKind.Node NodeEventKind.Move
kind_of_step Plan = EventKind.Plan

-- the event of this kind at node i; a plan has the table
abbrev pub event_with : EventKind → ℕ → Option (List ℕ) → Event
event_with (EventKind.Node kind) i table = event_at kind i
event_with EventKind.Plan i table = Event.Plan i (unwrap_or table [])

-- the event of a step of the procedure; a plan has the procedure's table
abbrev pub step_event : StepKind → ProcedureState → Event
step_event kind h = event_with (kind_of_step kind) h.node h.table

-- what a call that is answered so brings; nothing where it is discarded
abbrev pub outcome_brought : Answer → Option Outcome
outcome_brought Answer.Yes = Some Outcome.Yes
outcome_brought Answer.No = Some Outcome.No
outcome_brought Answer.Failed = Some Outcome.Failed
outcome_brought answer = None

-- the outcome by which the procedure goes on; none where its node's call is given up
abbrev pub outcome_after : StepKind → Answer → Option Outcome
outcome_after Start answer = Some Outcome.Started
outcome_after Return answer = outcome_brought answer
outcome_after Move answer = Some Outcome.Moved
outcome_after Plan answer = Some Outcome.Planned
outcome_after kind answer = None

-- the procedure after its step with this answer
abbrev pub procedure_after : StepKind → Answer → ProcedureState → ProcedureState
procedure_after kind answer h = option_map_or (resumed h) (outcome_after kind answer) h

-- The same in two parts: what the step's event takes from the procedure, and how it goes on afterwards.

-- a plan takes the table, and the procedure goes on by that
abbrev pub procedure_left : StepKind → ProcedureState → ProcedureState
procedure_left Plan h = resumed h Outcome.Planned
procedure_left kind h = h

abbrev pub outcome_left : StepKind → Answer → Option Outcome
outcome_left Plan answer = None
outcome_left kind answer = outcome_after kind answer
