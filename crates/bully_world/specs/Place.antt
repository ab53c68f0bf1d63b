-- Where an event takes place.
use Rattle.std.specs.Prelude.{ℕ, Option, Some, None, option_map}
use Rattle.bully_calls.specs.declared.call.Call.{Call}
use Rattle.bully_calls.specs.declared.event.Event.{Event}
use Rattle.bully_calls.specs.declared.kind.EventKind.{EventKind}
use Rattle.bully_calls.specs.declared.kind.Whose.{Whose}
use Rattle.bully_calls.specs.Events.{kind_of, node_of, whose_of}
use Rattle.bully_world.specs.World.{World, pending}

-- the call in node i's slot
abbrev pub call_at : World → ℕ → Option Call
call_at w i = option_map (λ c. c.call) (pending w i)

-- the callee of a call; node i without one
abbrev pub callee_or : ℕ → Option Call → ℕ
callee_or i None = i
callee_or i (Some call) = call.callee

abbrev pub place_by : Whose → World → ℕ → ℕ
place_by Whose.Callee w i = callee_or i (call_at w i)
place_by whose w i = i

-- the node at which an event of this kind, of node i, takes place, and the only one whose vector it may change: of one
-- that is its callee's the callee of node i's call, and else node i
abbrev pub place_at : World → ℕ → EventKind → ℕ
place_at w i kind = place_by (whose_of kind) w i

abbrev pub place_of : World → Event → ℕ
place_of w e = place_at w (node_of e) (kind_of e)
