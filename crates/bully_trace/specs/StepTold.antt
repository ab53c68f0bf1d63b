-- What a row of version 3 says beside an event of a call, and the step that the event takes.
use Rattle.std.specs.Prelude.{◌≡◌, ◌↔◌, ℕ, true, Option, Some, None}
use Rattle.bully_base.specs.Setup.{IsNode, Setup}
use Rattle.bully_calls.specs.declared.call.Answer.{Answer}
use Rattle.bully_calls.specs.declared.call.Call.{Call}
use Rattle.bully_calls.specs.declared.kind.Saying.{Saying}
use Rattle.bully_steps.specs.declared.point.Want.{Want}
use Rattle.bully_world.specs.Step.{Step, offer, sent}
use Rattle.bully_world.specs.World.{World, node_state, vector, with_node_state}
use Rattle.bully_rows.specs.declared.detail.Detail.{Detail}
use Rattle.bully_rows.specs.declared.detail.DetailedEvent.{DetailedEvent}
use Rattle.bully_rows.specs.EventsTold.{event_of_detailed}
use Rattle.bully_calls.specs.Events.{node_saying}
use Rattle.bully_trace.specs.Details.{call_at, is_so}

-- what a row says, the call and the answer, of an event of node i, which leads from w to w' with this answer: of a call
-- that is offered, that the event sends it; else it is the one in the slot; and where an answer is told, the event's
abbrev pub HasStep : Saying → Setup → World → ℕ → Call → Option Answer → World → Answer → Type 0
HasStep Saying.Nothing setup w i call told w' a = ⊥
HasStep Saying.Offered setup w i call told w' a =
    (told ≡ None) × (offer setup w i ≡ Want.Start call)
    × (w' ≡ with_node_state w i (record (node_state w i) { pending = Some (sent call (vector w i)) }))
HasStep Saying.Held setup w i call told w' a = (told ≡ None) × (call_at w i ≡ Some call)
HasStep Saying.Replied setup w i call told w' a = (told ≡ Some a) × (call_at w i ≡ Some call)
HasStep Saying.Brought setup w i call told w' a = (told ≡ Some a) × (call_at w i ≡ Some call)

abbrev pub IsOfStep : Setup → World → ℕ → Detail → World → Answer → Type 0
IsOfStep setup w i detail w' a = HasStep (node_saying detail.kind) setup w i detail.call detail.answer w' a

-- what is said beside an event is so in the world before it exactly where its step has it, and the group has both nodes
abbrev pub TellsTheStep : Type 0
TellsTheStep =
    (setup : Setup) (w : World) (e : DetailedEvent) (w' : World) (a : Answer) → Step setup w (event_of_detailed e) w' a
    → (is_so setup w e ≡ true)
    ↔ (IsNode setup e.node × IsNode setup e.detail.call.callee × IsOfStep setup w e.node e.detail w' a)
