-- What an event that nothing refuses makes of what is kept of each node, and its answer.
use Rattle.std.specs.Prelude.{◌≡◌, ◌≢◌, ℕ, ◌+◌, ◌<◌, ◌≤◌, ◌^◌, ◌==◌, IsTrue, IsSome, IfSome, length, not, List, Option}
use Rattle.std.specs.Prelude.{Some, None, option_map, unwrap_or, if◌then◌else◌}
use Rattle.std.specs.Option.{option_map_or}
use Rattle.bully_base.specs.declared.node.Status.TheVariants.{Down}
use Rattle.bully_base.specs.Places.{put_node}
use Rattle.bully_base.specs.Setup.{Setup}
use Rattle.bully_calls.specs.declared.call.Answer.{Answer}
use Rattle.bully_calls.specs.declared.call.Call.{Call}
use Rattle.bully_calls.specs.declared.call.CallKind.{CallKind}
use Rattle.bully_calls.specs.declared.call.CallKind.TheVariants.{AreYouUp, AreYouNormal, Halt, NewCoordinator, Ready}
use Rattle.bully_calls.specs.declared.call.Outcome.{Outcome}
use Rattle.bully_calls.specs.declared.call.Phase.{Phase}
use Rattle.bully_calls.specs.Pending.{outcome_of, answer_of, is_sent, is_failed}
use Rattle.bully_calls.specs.Slot.{SlotCall, phased, CarriesFor, holds_call, outcome_in}
use Rattle.bully_handlers.specs.Handler.{callee_after, reply}
use Rattle.bully_handlers.specs.Vector.{Vector, crashed, empty_vector, recovered}
use Rattle.bully_steps.specs.declared.point.Point.{Point}
use Rattle.bully_steps.specs.declared.point.Point.TheVariants.{Idle, Halting, Readying}
use Rattle.bully_steps.specs.declared.point.Want.{Want}
use Rattle.bully_steps.specs.NextPoint.{next_point, next_vector, election, checked, timed_out}
use Rattle.bully_steps.specs.Point.{offered, IsPointOf}
use Rattle.bully_steps.specs.ProcedureState.{IsCall}
use Rattle.bully_calls.specs.declared.event.Event.{Event}
use Rattle.bully_calls.specs.Events.{node_of}
use Rattle.bully_world.specs.State.{StoredNode, empty_state, kept_of}
use Rattle.bully_world.specs.Step.{carried}

abbrev pub with_vector : Vector → StoredNode → StoredNode
with_vector v m = record m { vector = record m.vector { vector = v } }

abbrev pub with_content : Option SlotCall → StoredNode → StoredNode
with_content p m = record m { slot = record m.slot { content = p } }

-- a node that is Down and has this task, with room for a table of so many partitions
abbrev pub down_state : ℕ → Option (List ℕ) → StoredNode
down_state room task = with_vector (record empty_vector { task = task }) (empty_state room)

abbrev pub recovered_state : Setup → ℕ → StoredNode → StoredNode
recovered_state setup i m = record (with_vector (recovered setup m.vector.vector) m) { point = election i }

abbrev pub crashed_state : Setup → StoredNode → StoredNode
crashed_state setup m = record (with_content None (with_vector (crashed setup m.vector.vector) m)) {
  point = Idle;
  generation = m.generation + 1;
}

abbrev pub begun_state : Point → StoredNode → StoredNode
begun_state p m = record m { point = p }

-- node i posts the call
abbrev pub opened_state : ℕ → Call → StoredNode → StoredNode
opened_state i call m =
    with_content (Some (record {
      tag = record { caller = i; generation = m.generation };
      call = call;
      phase = Phase.Sent;
      table = carried call.kind m.vector.vector;
    })) m

abbrev pub started_state : Setup → ℕ → StoredNode → StoredNode
started_state setup i m =
    elim (offered setup m.vector.vector.coordinator m.point) [
      | Want.Start call ↦ opened_state i call m
      | _ ↦ m
    ]

abbrev pub phased_state : Phase → StoredNode → StoredNode
phased_state f m = with_content (option_map (phased f) m.slot.content) m

-- a Halt stops its callee: its generation rises, so that its own call becomes an orphan
abbrev pub stopped_state_by : CallKind → StoredNode → StoredNode
stopped_state_by AreYouUp m = m
stopped_state_by AreYouNormal m = m
stopped_state_by Halt m = record m { point = Idle; generation = m.generation + 1 }
stopped_state_by NewCoordinator m = m
stopped_state_by Ready m = m

-- the callee after the call from node i, with the table that a Ready carries
abbrev pub heard_state : ℕ → Call → Option (List ℕ) → StoredNode → StoredNode
heard_state i call table m = stopped_state_by call.kind (with_vector (callee_after i call.kind table m.vector.vector) m)

-- the callee after the call in the slot of node i
abbrev pub callee_state_after : ℕ → SlotCall → StoredNode → StoredNode
callee_state_after i p m = heard_state i p.call p.table m

-- the node that a point halts next, or 0
abbrev pub halted_number : Point → ℕ
halted_number (Halting k) = k
halted_number _ = 0

-- node i goes on by this outcome
abbrev pub proceeded_state : Setup → ℕ → Outcome → StoredNode → StoredNode
proceeded_state setup i o m =
    record (with_vector (next_vector i m.point o m.vector.vector) m) {
      point = unwrap_or (next_point setup i m.vector.vector.up m.point o) m.point;
    }

abbrev pub returned_state : Setup → ℕ → SlotCall → Outcome → StoredNode → StoredNode
returned_state setup i p o m =
    if p.tag.generation == m.generation then proceeded_state setup i o (with_content None m) else with_content None m

abbrev pub planned_state : List ℕ → StoredNode → StoredNode
planned_state table m =
    record (with_vector (record m.vector.vector { task = Some table }) m) { point = Readying m.vector.vector.up }

-- the callee's answer to the call
abbrev pub replied : List StoredNode → SlotCall → Answer
replied ms p = reply p.call.kind (kept_of ms p.call.callee).vector.vector

abbrev pub node_after_return : Setup → ℕ → StoredNode → Option SlotCall → StoredNode
node_after_return setup i m None = m
node_after_return setup i m (Some p) = option_map_or (λ o. returned_state setup i p o m) (outcome_of p.phase) m

-- what an event other than a Run makes of its own node
abbrev pub node_after : Setup → Event → StoredNode → StoredNode
node_after setup (Event.Recover i) m = recovered_state setup i m
node_after setup (Event.Crash i) m = crashed_state setup m
node_after setup (Event.Check i) m = begun_state (checked setup i m.vector.vector.status m.vector.vector.coordinator) m
node_after setup (Event.Timeout i) m = begun_state (timed_out i m.vector.vector.status m.vector.vector.coordinator) m
node_after setup (Event.Start i) m = started_state setup i m
node_after setup (Event.Run i) m = m
node_after setup (Event.Lose i) m = phased_state Phase.Failed m
node_after setup (Event.Return i) m = node_after_return setup i m m.slot.content
node_after setup (Event.Drop i) m = with_content None m
node_after setup (Event.Move i) m = proceeded_state setup i Outcome.Moved m
node_after setup (Event.Plan i table) m = planned_state table m

-- a Run writes two places: the caller's, which keeps the answer, and then the callee's
abbrev pub state_after_run : List StoredNode → ℕ → Option SlotCall → List StoredNode
state_after_run ms i None = ms
state_after_run ms i (Some p) =
    let answered = put_node ms i (phased_state (Phase.Ran (replied ms p)) (kept_of ms i)) in
    put_node answered p.call.callee (callee_state_after i p (kept_of answered p.call.callee))

-- what the event makes of what is kept
abbrev pub state_after : Setup → List StoredNode → Event → List StoredNode
state_after setup ms (Event.Run i) = state_after_run ms i (kept_of ms i).slot.content
state_after setup ms e = put_node ms (node_of e) (node_after setup e (kept_of ms (node_of e)))

abbrev pub return_answer : ℕ → Option SlotCall → Answer
return_answer generation None = Answer.Done
return_answer generation (Some p) =
    if p.tag.generation == generation then option_map_or answer_of (outcome_of p.phase) Answer.Done else
    Answer.Discarded

-- what an event other than a Run is answered
abbrev pub node_answer : Event → StoredNode → Answer
node_answer (Event.Return i) m = return_answer m.generation m.slot.content
node_answer (Event.Drop i) m = Answer.Discarded
node_answer e m = Answer.Done

abbrev pub run_answer : List StoredNode → Option SlotCall → Answer
run_answer ms None = Answer.Done
run_answer ms (Some p) = replied ms p

-- what the event is answered
abbrev pub answer_after : List StoredNode → Event → Answer
answer_after ms (Event.Run i) = run_answer ms (kept_of ms i).slot.content
answer_after ms e = node_answer e (kept_of ms (node_of e))

-- what an event other than a Run asks of its node's slot and room, where nothing refuses it
abbrev pub MayApply : Setup → Event → StoredNode → Type 0
MayApply setup (Event.Start i) m =
    IsCall (offered setup m.vector.vector.coordinator m.point)
    × (m.slot.content ≡ None)
    × ((call : Call) → offered setup m.vector.vector.coordinator m.point ≡ Want.Start call
    → CarriesFor call (carried call.kind m.vector.vector) m.slot.room)
MayApply setup (Event.Lose i) m = IsTrue (holds_call (λ f. not (is_failed f)) m.slot)
MayApply setup (Event.Return i) m = IsSome (outcome_in m.slot)
MayApply setup (Event.Plan i table) m = length table ≡ m.vector.room
MayApply setup (Event.Recover i) m = Unit {0}
MayApply setup (Event.Crash i) m = Unit {0}
MayApply setup (Event.Check i) m = Unit {0}
MayApply setup (Event.Timeout i) m = Unit {0}
MayApply setup (Event.Run i) m = ⊥
MayApply setup (Event.Drop i) m = Unit {0}
MayApply setup (Event.Move i) m = Unit {0}

-- the call of `calling` was sent and may run at `called`
pub record CanExchange (calling called : StoredNode) : Type 0 where
  pub sent : IsTrue (holds_call is_sent calling.slot)
  pub up : called.vector.vector.status ≢ Down
  pub room : called.generation + 1 < 2 ^ 32
  pub carries : IfSome calling.slot.content (λ p. CarriesFor p.call p.table called.vector.room)

-- the call in node i's slot may run: it was sent, and goes to another node, which is up
pub record CanRun (ms : List StoredNode) (i : ℕ) : Type 0 where
  pub call : SlotCall
  pub content : (kept_of ms i).slot.content ≡ Some call
  pub caller : i ≤ length ms
  pub callee : (0 < call.call.callee) × (call.call.callee ≤ length ms)
  pub other : call.call.callee ≢ i
  pub can : CanExchange (kept_of ms i) (kept_of ms call.call.callee)

-- what an event other than a Run asks of what is kept of its node
pub record CanApplyHere (setup : Setup) (e : Event) (m : StoredNode) : Type 0 where
  pub at : IsPointOf setup (node_of e) m.point
  pub room : m.generation + 1 < 2 ^ 32
  pub may : MayApply setup e m

-- what an event asks that nothing refuses
abbrev pub CanApply : Setup → List StoredNode → Event → Type 0
CanApply setup ms (Event.Run i) = CanRun ms i
CanApply setup ms e = (node_of e ≤ length ms) × CanApplyHere setup e (kept_of ms (node_of e))
