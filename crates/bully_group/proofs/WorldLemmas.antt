-- What a world shows of a number above its last node, and what its turn rule offers.
use Rattle.std.proofs.Common.{◌≡◌, ◌<◌, ℕ, Bool, true, false, None, Some, arith, refl}
use Rattle.bully_steps.specs.ProcedureState.{ProcedureState}
use Rattle.bully_watch.specs.History.{whose}
use Rattle.bully_watch.proofs.PartLemmas.{whose_own}
use Rattle.bully_world.specs.declared.turn.Next.{Next}
use Rattle.bully_world.specs.declared.turn.StepKind.{StepKind}
use Rattle.bully_world.specs.State.{WorldState, IsReached, world_of}
use Rattle.bully_world.specs.Turn.{turn, step_event, is_in_step}
use Rattle.bully_world.specs.World.{World, pending}
use Rattle.bully_world.proofs.NodeInvariantLemmas.{lawful_fits}
use Rattle.bully_world.proofs.ServingLemmas.{status_beyond}
use Rattle.bully_world.proofs.TurnSteps.{turn_own}
pub use Rattle.bully_world.proofs.TurnTaken.{no_turn_raises}

-- a number above the last node has no call
pub no_call_beyond : (s : WorldState) (i : ℕ) → IsReached s → s.setup.nodes < i → pending (world_of s) i ≡ None
no_call_beyond s i r above = ((lawful_fits s.setup r.applied r.answers (world_of s) r.lawful).fits i).down_free (status_beyond s i r above)

-- a step that is offered is one of the procedure's node
pub whose_turn : (w : World) (kind : StepKind) (h : ProcedureState) → whose w (step_event kind h) ≡ Some h.node
whose_turn w kind h = whose_own w h.node (step_event kind h) (turn_own kind h)

-- a procedure that rests is in step
pub rest_in_step : (w : WorldState) (h : ProcedureState) → turn w h ≡ Next.Rest → is_in_step w h ≡ true
rest_in_step w h t = by_test (is_in_step w h) refl
  where
    by_test : (b : Bool) → is_in_step w h ≡ b → is_in_step w h ≡ true
    by_test true is = is
    by_test false is = absurd (grind (arith, t, is))
