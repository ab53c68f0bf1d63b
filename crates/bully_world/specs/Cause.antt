-- Why an event is refused: the first of twelve refusals that holds.
use Rattle.std.specs.Prelude.{ℕ, Bool, true, false, List, [], ◌∷◌, length, Option, Some, None, ◌&&◌, not, nat_le, ◌==◌}
use Rattle.std.specs.Prelude.{if◌then◌else◌}
use Rattle.bully_base.specs.NodeSet.{with_node}
use Rattle.bully_base.specs.Setup.{Setup, is_node}
use Rattle.bully_table.specs.Balance.{is_balanced}
use Rattle.bully_calls.specs.declared.call.Phase.{Phase}
use Rattle.bully_calls.specs.Pending.{Pending, is_sent, is_failed}
use Rattle.bully_handlers.specs.Vector.{is_down}
use Rattle.bully_steps.specs.declared.point.Point.{Point}
use Rattle.bully_steps.specs.declared.point.Want.{Want}
use Rattle.bully_calls.specs.declared.event.Event.{Event}
use Rattle.bully_calls.specs.Events.{node_of}
use Rattle.bully_calls.specs.declared.event.Refused.{Refused}
use Rattle.bully_calls.specs.declared.event.Refused.TheVariants.{Full, BadNode, IsDown, IsUp, Busy, NoStep, SlotBusy}
use Rattle.bully_calls.specs.declared.event.Refused.TheVariants.{NoCall, CalleeDown, CalleeUp, BadTable, NotOrphan}
use Rattle.bully_world.specs.Step.{offer}
use Rattle.bully_world.specs.World.{World, vector, point, pending}

-- why the event is refused stands in the node state of its node alone
abbrev pub IsToldByNode : Event → Type 0
IsToldByNode (Event.Run i) = ⊥
IsToldByNode (Event.Lose i) = ⊥
IsToldByNode e = Unit {0}

abbrev pub is_down_at : World → ℕ → Bool
is_down_at w i = is_down (vector w i).status

abbrev pub is_idle : Point → Bool
is_idle Point.Idle = true
is_idle _ = false

abbrev pub is_call : Want → Bool
is_call (Want.Start call) = true
is_call _ = false

abbrev pub is_move : Want → Bool
is_move Want.Move = true
is_move _ = false

abbrev pub is_plan : Want → Bool
is_plan Want.Plan = true
is_plan _ = false

abbrev pub is_pending : Option Pending → Bool
is_pending None = false
is_pending (Some c) = true

-- a live call is pending
abbrev pub is_live_in : Option Pending → Bool
is_live_in None = false
is_live_in (Some c) = c.is_live

-- there is a call, in a phase that passes the test
abbrev pub in_phase : (Phase → Bool) → Option Pending → Bool
in_phase test None = false
in_phase test (Some c) = test c.phase

abbrev pub callee_is_down : World → Option Pending → Bool
callee_is_down w None = false
callee_is_down w (Some c) = is_down_at w c.call.callee

-- whether the refusal speaks of the event, with so many events applied
abbrev pub refuses : Setup → World → ℕ → Event → Refused → Bool
refuses setup w count e Full = nat_le setup.events_max count
refuses setup w count e BadNode = not (is_node setup (node_of e))
refuses setup w count (Event.Recover i) IsUp = not (is_down_at w i)
refuses setup w count (Event.Recover i) _ = false
refuses setup w count e IsDown = is_down_at w (node_of e)
refuses setup w count (Event.Check i) Busy = not (is_idle (point w i))
refuses setup w count (Event.Timeout i) Busy = not (is_idle (point w i))
refuses setup w count (Event.Start i) NoStep = not (is_call (offer setup w i))
refuses setup w count (Event.Move i) NoStep = not (is_move (offer setup w i))
refuses setup w count (Event.Plan i table) NoStep = not (is_plan (offer setup w i))
refuses setup w count (Event.Start i) SlotBusy = is_pending (pending w i)
refuses setup w count (Event.Move i) SlotBusy = is_pending (pending w i)
refuses setup w count (Event.Plan i table) SlotBusy = is_pending (pending w i)
refuses setup w count (Event.Run i) NoCall = not (in_phase is_sent (pending w i))
refuses setup w count (Event.Lose i) NoCall = not (in_phase (λ f. not (is_failed f)) (pending w i))
refuses setup w count (Event.Return i) NoCall = not (in_phase (λ f. not (is_sent f)) (pending w i))
refuses setup w count (Event.Drop i) NoCall = not (is_pending (pending w i))
refuses setup w count (Event.Run i) CalleeDown = callee_is_down w (pending w i)
refuses setup w count (Event.Lose i) CalleeUp = not (callee_is_down w (pending w i))
refuses setup w count (Event.Plan i table) BadTable =
    not ((length table == setup.partitions) && is_balanced setup table (with_node i (vector w i).up))
refuses setup w count (Event.Drop i) NotOrphan = is_live_in (pending w i)
refuses setup w count e _ = false

-- the refusals in their one order; the later ones speak of a node that is up
abbrev pub later_refusals : List Refused
later_refusals = Busy ∷ NoStep ∷ SlotBusy ∷ NoCall ∷ CalleeDown ∷ CalleeUp ∷ BadTable ∷ NotOrphan ∷ []

abbrev pub refusals : List Refused
refusals = Full ∷ BadNode ∷ IsDown ∷ IsUp ∷ later_refusals

abbrev pub first_of : (Refused → Bool) → List Refused → Option Refused
first_of holds [] = None
first_of holds (r ∷ rs) = if holds r then Some r else first_of holds rs

abbrev pub cause : Setup → World → ℕ → Event → Option Refused
cause setup w count e = first_of (refuses setup w count e) refusals
