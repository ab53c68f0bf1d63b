-- Which nodes an event takes to another point, as it is seen in the world before it.
use Rattle.std.specs.Prelude.{Bool, true, false, not, ◌&&◌, Option, Some, None}
use Rattle.bully_calls.specs.declared.call.Call.{Call}
use Rattle.bully_calls.specs.declared.event.Event.{Event}
use Rattle.bully_calls.specs.Pending.{Pending}
use Rattle.bully_world.specs.Cause.{is_idle}
use Rattle.bully_world.specs.Place.{call_at}
use Rattle.bully_world.specs.State.{is_halt}
use Rattle.bully_world.specs.World.{World, pending, point}
use Rattle.bully_account.specs.declared.moving.Moves.{Moves}

-- the slot holds no orphan
abbrev pub holds_no_orphan : Option Pending → Bool
holds_no_orphan None = true
holds_no_orphan (Some c) = c.is_live

-- whether the event takes its own node to another point; none where that is seen after it alone
abbrev pub own_move : World → Event → Option Bool
own_move w (Event.Recover i) = Some true
own_move w (Event.Crash i) = Some (not (is_idle (point w i)))
own_move w (Event.Check i) = None
own_move w (Event.Timeout i) = None
own_move w (Event.Start i) = Some false
own_move w (Event.Run i) = Some false
own_move w (Event.Lose i) = Some false
own_move w (Event.Return i) = Some (holds_no_orphan (pending w i))
own_move w (Event.Drop i) = Some false
own_move w (Event.Move i) = Some true
own_move w (Event.Plan i table) = Some true

-- the call is a Halt, and its callee isn't idle
abbrev pub cuts_by : World → Option Call → Bool
cuts_by w None = false
cuts_by w (Some call) = is_halt call.kind && not (is_idle (point w call.callee))

-- the event is the run of a Halt that cuts a procedure off
abbrev pub cuts_off : World → Event → Bool
cuts_off w (Event.Run i) = cuts_by w (call_at w i)
cuts_off w e = false

abbrev pub moves_in : World → Event → Moves
moves_in w e = record { own = own_move w e; callee = cuts_off w e }
