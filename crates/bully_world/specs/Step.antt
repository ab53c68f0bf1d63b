-- One event: what it needs, what the world becomes, and what is answered.
use Rattle.std.specs.Prelude.{◌≡◌, ◌≢◌, ℕ, Bool, true, false, List, length, Option, Some, None}
use Rattle.bully_base.specs.declared.node.Status.TheVariants.{Down}
use Rattle.bully_base.specs.NodeSet.{with_node}
use Rattle.bully_base.specs.Setup.{Setup, IsNode}
use Rattle.bully_table.specs.Balance.{IsBalanced}
use Rattle.bully_calls.specs.declared.call.Answer.{Answer}
use Rattle.bully_calls.specs.declared.call.Call.{Call}
use Rattle.bully_calls.specs.declared.call.CallKind.{CallKind}
use Rattle.bully_calls.specs.declared.call.CallKind.TheVariants.{AreYouUp, AreYouNormal, Halt, NewCoordinator, Ready}
use Rattle.bully_calls.specs.declared.call.Outcome.{Outcome}
use Rattle.bully_calls.specs.declared.call.Phase.{Phase}
use Rattle.bully_calls.specs.Pending.{Pending, outcome_of, answer_of}
use Rattle.bully_handlers.specs.Handler.{callee_after, reply}
use Rattle.bully_handlers.specs.Vector.{Vector, crashed, recovered}
use Rattle.bully_steps.specs.declared.point.Point.{Point}
use Rattle.bully_steps.specs.declared.point.Point.TheVariants.{Idle, Planning, Readying}
use Rattle.bully_steps.specs.declared.point.Want.{Want}
use Rattle.bully_steps.specs.NextPoint.{next_point, next_vector, election, checked, timed_out}
use Rattle.bully_steps.specs.Point.{offered}
use Rattle.bully_calls.specs.declared.event.Event.{Event}
use Rattle.bully_world.specs.World.{NodeState, World, node_state, vector, point, pending, with_node_state, stopped}

-- a number that is no node's is Down too
abbrev pub IsUp : World → ℕ → Type 0
IsUp w i = (vector w i).status ≢ Down

-- what node i's point offers
abbrev pub offer : Setup → World → ℕ → Want
offer setup w i = offered setup (vector w i).coordinator (point w i)

-- a Ready carries the caller's task
abbrev pub carried : CallKind → Vector → Option (List ℕ)
carried AreYouUp v = None
carried AreYouNormal v = None
carried Halt v = None
carried NewCoordinator v = None
carried Ready v = v.task

-- the call as it is started by a node with this vector
abbrev pub sent : Call → Vector → Pending
sent call v = record { call = call; table = carried call.kind v; phase = Phase.Sent; is_live = true }

-- a Halt stops its callee
abbrev pub stopped_by : CallKind → NodeState → NodeState
stopped_by AreYouUp m = m
stopped_by AreYouNormal m = m
stopped_by Halt m = stopped m
stopped_by NewCoordinator m = m
stopped_by Ready m = m

-- the callee after a call from node i
abbrev pub called : ℕ → Pending → NodeState → NodeState
called i c m = stopped_by c.call.kind (record m { vector = callee_after i c.call.kind c.table m.vector })

-- node i's call has this phase from now on
abbrev pub with_phase : World → ℕ → Pending → Phase → World
with_phase w i c phase = with_node_state w i (record (node_state w i) { pending = Some (record c { phase = phase }) })

-- node i's call runs at its callee
abbrev pub ran : World → ℕ → Pending → World
ran w i c =
    let j = c.call.callee in
    let answered = with_phase w i c (Phase.Ran (reply c.call.kind (vector w j))) in
    with_node_state answered j (called i c (node_state answered j))

-- node i's call is taken out of its slot
abbrev pub emptied : World → ℕ → World
emptied w i = with_node_state w i (record (node_state w i) { pending = None })

-- node i, with no call pending, goes on by this outcome
abbrev pub Proceeds : Setup → World → ℕ → Outcome → World → Type 0
Proceeds setup w i o w' =
    (p : Point)
    × (next_point setup i (vector w i).up (point w i) o ≡ Some p)
    × (w'
    ≡ with_node_state w i (record { vector = next_vector i (point w i) o (vector w i); point = p; pending = None }))

-- a live call's return moves the point, an orphan's is discarded
abbrev pub Returns : Setup → World → ℕ → Bool → Outcome → World → Answer → Type 0
Returns setup w i true o w' a = Proceeds setup w i o w' × (a ≡ answer_of o)
Returns setup w i false o w' a = (w' ≡ emptied w i) × (a ≡ Answer.Discarded)

-- from w the event leads to w', with this answer
abbrev pub Step : Setup → World → Event → World → Answer → Type 0
Step setup w (Event.Recover i) w' a =
    IsNode setup i
    × ((vector w i).status ≡ Down)
    × (w' ≡ with_node_state w i (record (node_state w i) { vector = recovered setup (vector w i); point = election i }))
    × (a ≡ Answer.Done)
Step setup w (Event.Crash i) w' a =
    IsUp w i
    × (w' ≡ with_node_state w i (record { vector = crashed setup (vector w i); point = Idle; pending = None }))
    × (a ≡ Answer.Done)
Step setup w (Event.Check i) w' a =
    IsUp w i
    × (point w i ≡ Idle)
    × (w' ≡ with_node_state w i
    (record (node_state w i) { point = checked setup i (vector w i).status (vector w i).coordinator }))
    × (a ≡ Answer.Done)
Step setup w (Event.Timeout i) w' a =
    IsUp w i
    × (point w i ≡ Idle)
    × (w' ≡ with_node_state w i
    (record (node_state w i) { point = timed_out i (vector w i).status (vector w i).coordinator }))
    × (a ≡ Answer.Done)
Step setup w (Event.Start i) w' a =
    IsUp w i
    × (pending w i ≡ None)
    × (call : Call)
    × (offer setup w i ≡ Want.Start call)
    × (w' ≡ with_node_state w i (record (node_state w i) { pending = Some (sent call (vector w i)) }))
    × (a ≡ Answer.Done)
Step setup w (Event.Run i) w' a =
    (c : Pending)
    × (pending w i ≡ Some c)
    × (c.phase ≡ Phase.Sent)
    × IsUp w c.call.callee
    × (w' ≡ ran w i c)
    × (a ≡ reply c.call.kind (vector w c.call.callee))
Step setup w (Event.Lose i) w' a =
    (c : Pending)
    × (pending w i ≡ Some c)
    × (c.phase ≢ Phase.Failed)
    × ((vector w c.call.callee).status ≡ Down)
    × (w' ≡ with_phase w i c Phase.Failed)
    × (a ≡ Answer.Done)
Step setup w (Event.Return i) w' a =
    (c : Pending)
    × (o : Outcome)
    × (pending w i ≡ Some c)
    × (outcome_of c.phase ≡ Some o)
    × Returns setup w i c.is_live o w' a
Step setup w (Event.Drop i) w' a =
    (c : Pending)
    × (pending w i ≡ Some c)
    × (c.is_live ≡ false)
    × (w' ≡ emptied w i)
    × (a ≡ Answer.Discarded)
Step setup w (Event.Move i) w' a =
    IsUp w i
    × (pending w i ≡ None)
    × (offer setup w i ≡ Want.Move)
    × Proceeds setup w i Outcome.Moved w'
    × (a ≡ Answer.Done)
Step setup w (Event.Plan i table) w' a =
    (point w i ≡ Planning)
    × (pending w i ≡ None)
    × (length table ≡ setup.partitions)
    × IsBalanced setup table (with_node i (vector w i).up)
    × (w' ≡ with_node_state w i
    (record { vector = record (vector w i) { task = Some table }; point = Readying (vector w i).up; pending = None }))
    × (a ≡ Answer.Done)
