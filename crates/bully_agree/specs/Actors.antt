-- Whose an event is.
use Rattle.std.specs.Prelude.{ℕ, Option, Some, option_map}
use Rattle.bully_calls.specs.Pending.{Pending}
use Rattle.bully_calls.specs.declared.event.Event.{Event}
use Rattle.bully_calls.specs.Events.{node_of}
use Rattle.bully_world.specs.World.{World, pending}

-- the operator; node i is actor i
abbrev pub operator : ℕ
operator = 0

abbrev pub callee_of : Pending → ℕ
callee_of c = c.call.callee

-- Whose event it is in this world: a recovery and a crash are the operator's, a run is the callee's, and nobody's where
-- no call is there, and each other event is the node's that it names.
abbrev pub whose : World → Event → Option ℕ
whose w (Event.Recover i) = Some operator
whose w (Event.Crash i) = Some operator
whose w (Event.Run i) = option_map callee_of (pending w i)
whose w e = Some (node_of e)
