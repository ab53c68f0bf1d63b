-- The function that computes a step: each of its conditions as a test. That it computes exactly `Step` is a law.
use Rattle.std.specs.Prelude.{◌≡◌, ◌↔◌, ℕ, Bool, true, false, List, [], ◌∷◌, length, Option, Some, None, ◌&&◌, not}
use Rattle.std.specs.Prelude.{◌==◌, option_map, option_and_then}
use Rattle.bully_base.specs.NodeSet.{with_node}
use Rattle.bully_base.specs.Setup.{Setup, is_node}
use Rattle.bully_table.specs.Balance.{is_balanced}
use Rattle.bully_calls.specs.declared.call.Answer.{Answer}
use Rattle.bully_calls.specs.declared.call.Answer.TheVariants.{Done, Discarded}
use Rattle.bully_calls.specs.declared.call.Outcome.{Outcome}
use Rattle.bully_calls.specs.declared.call.Phase.{Phase}
use Rattle.bully_calls.specs.Pending.{Pending, is_sent, is_failed, outcome_of, answer_of}
use Rattle.bully_handlers.specs.Handler.{reply}
use Rattle.bully_handlers.specs.Vector.{Vector, crashed, recovered}
use Rattle.bully_steps.specs.declared.point.Point.{Point}
use Rattle.bully_steps.specs.declared.point.Want.{Want}
use Rattle.bully_steps.specs.NextPoint.{next_point, next_vector, election, checked, timed_out}
use Rattle.bully_calls.specs.declared.event.Event.{Event}
use Rattle.bully_world.specs.Cause.{is_down_at, is_idle, is_pending}
use Rattle.bully_world.specs.Lawful.{LeadTo, IsLawful}
use Rattle.bully_world.specs.Step.{Step, offer, sent, with_phase, ran, emptied}
use Rattle.bully_world.specs.World.{World, node_state, vector, point, pending, with_node_state, first_world}

-- the next world and the answer; none where the step isn't possible
abbrev pub StepResult : Type 0
StepResult = Option (World × Answer)

abbrev pub when : Bool → World → Answer → StepResult
when true w a = Some (w, a)
when false w a = None

-- node i is up and has no call pending
abbrev pub is_ready : World → ℕ → Bool
is_ready w i = not (is_down_at w i) && not (is_pending (pending w i))

abbrev pub is_planning : Point → Bool
is_planning Point.Planning = true
is_planning _ = false

abbrev pub start_of : World → ℕ → Bool → Want → StepResult
start_of w i b (Want.Start call) =
    when b (with_node_state w i (record (node_state w i) { pending = Some (sent call (vector w i)) })) Done
start_of w i b _ = None

abbrev pub run_of : World → ℕ → Option Pending → StepResult
run_of w i None = None
run_of w i (Some c) =
    when (is_sent c.phase && not (is_down_at w c.call.callee)) (ran w i c) (reply c.call.kind (vector w c.call.callee))

abbrev pub lose_of : World → ℕ → Option Pending → StepResult
lose_of w i None = None
lose_of w i (Some c) = when (not (is_failed c.phase) && is_down_at w c.call.callee) (with_phase w i c Phase.Failed) Done

abbrev pub proceed_to : World → ℕ → Vector → Option Point → Answer → StepResult
proceed_to w i v None a = None
proceed_to w i v (Some p) a = Some (with_node_state w i (record { vector = v; point = p; pending = None }), a)

abbrev pub proceed_of : Setup → World → ℕ → Outcome → Answer → StepResult
proceed_of setup w i o a =
    proceed_to w i (next_vector i (point w i) o (vector w i)) (next_point setup i (vector w i).up (point w i) o) a

abbrev pub outcome_step : Setup → World → ℕ → Bool → Option Outcome → StepResult
outcome_step setup w i b None = None
outcome_step setup w i true (Some o) = proceed_of setup w i o (answer_of o)
outcome_step setup w i false (Some o) = Some (emptied w i, Discarded)

abbrev pub return_of : Setup → World → ℕ → Option Pending → StepResult
return_of setup w i None = None
return_of setup w i (Some c) = outcome_step setup w i c.is_live (outcome_of c.phase)

abbrev pub drop_of : World → ℕ → Option Pending → StepResult
drop_of w i None = None
drop_of w i (Some c) = when (not c.is_live) (emptied w i) Discarded

abbrev pub move_of : Setup → World → ℕ → Bool → Want → StepResult
move_of setup w i true Want.Move = proceed_of setup w i Outcome.Moved Done
move_of setup w i b _ = None

-- the table may be planned by a node with this up set
abbrev pub is_plannable : Setup → List ℕ → ℕ → List ℕ → Bool
is_plannable setup table i up = (length table == setup.partitions) && is_balanced setup table (with_node i up)

-- the event as one step
abbrev pub step_of : Setup → World → Event → StepResult
step_of setup w (Event.Recover i) =
    when (is_node setup i && is_down_at w i)
    (with_node_state w i (record (node_state w i) { vector = recovered setup (vector w i); point = election i })) Done
step_of setup w (Event.Crash i) =
    when (not (is_down_at w i))
    (with_node_state w i (record { vector = crashed setup (vector w i); point = Point.Idle; pending = None })) Done
step_of setup w (Event.Check i) =
    when (not (is_down_at w i) && is_idle (point w i))
    (with_node_state w i
    (record (node_state w i) { point = checked setup i (vector w i).status (vector w i).coordinator })) Done
step_of setup w (Event.Timeout i) =
    when (not (is_down_at w i) && is_idle (point w i))
    (with_node_state w i (record (node_state w i) { point = timed_out i (vector w i).status (vector w i).coordinator }))
    Done
step_of setup w (Event.Start i) = start_of w i (is_ready w i) (offer setup w i)
step_of setup w (Event.Run i) = run_of w i (pending w i)
step_of setup w (Event.Lose i) = lose_of w i (pending w i)
step_of setup w (Event.Return i) = return_of setup w i (pending w i)
step_of setup w (Event.Drop i) = drop_of w i (pending w i)
step_of setup w (Event.Move i) = move_of setup w i (is_ready w i) (offer setup w i)
step_of setup w (Event.Plan i table) =
    when (is_planning (point w i) && not (is_pending (pending w i)) && is_plannable setup table i (vector w i).up)
    (with_node_state w i (record {
      vector = record (vector w i) { task = Some table };
      point = Point.Readying (vector w i).up;
      pending = None;
    })) Done

-- the last world and all answers; none where a step isn't possible
abbrev pub StepsResult : Type 0
StepsResult = Option (World × List Answer)

abbrev pub answered_first : Answer → World × List Answer → World × List Answer
answered_first a r = (r.0, a ∷ r.1)

-- the events as steps, each from the world that those before it lead to
abbrev pub steps_from : Setup → World → List Event → StepsResult
steps_from setup w [] = Some (w, [])
steps_from setup w (e ∷ events) =
    option_and_then (λ t. option_map (answered_first t.1) (steps_from setup t.0 events)) (step_of setup w e)

abbrev pub steps_of : Setup → List Event → StepsResult
steps_of setup events = steps_from setup (first_world setup) events

-- The laws.

-- it computes exactly the step
abbrev pub StepIsComputed : Type 0
StepIsComputed =
    (setup : Setup) (w : World) (e : Event) (w' : World) (a : Answer)
    → (step_of setup w e ≡ Some (w', a)) ↔ Step setup w e w' a

-- and, of a list, exactly where it leads
abbrev pub LeadIsComputed : Type 0
LeadIsComputed =
    (setup : Setup) (w : World) (events : List Event) (answers : List Answer) (w' : World)
    → (steps_from setup w events ≡ Some (w', answers)) ↔ LeadTo setup w events answers w'

-- so a step has one outcome
abbrev pub StepIsOne : Type 0
StepIsOne =
    (setup : Setup) (w : World) (e : Event) (w' w'' : World) (a b : Answer)
    → Step setup w e w' a → Step setup w e w'' b → (w'' ≡ w') × (b ≡ a)

-- and a lawful list leads to one world, with one list of answers
abbrev pub LawfulIsOne : Type 0
LawfulIsOne =
    (setup : Setup) (events : List Event) (answers others : List Answer) (w v : World)
    → IsLawful setup events answers w → IsLawful setup events others v → (v ≡ w) × (others ≡ answers)
