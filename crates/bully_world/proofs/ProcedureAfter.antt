-- How a procedure goes on by a step of the turn rule.
use Rattle.std.proofs.Common.{◌≡◌, ℕ, zero, suc, false, List, [], ◌∷◌, Option, Some, None, arith, refl}
use Rattle.std.specs.Option.{option_map_or}
use Rattle.bully_base.specs.Setup.{Setup}
use Rattle.bully_calls.specs.declared.call.Answer.{Answer}
use Rattle.bully_calls.specs.declared.call.Call.{Call}
use Rattle.bully_calls.specs.declared.call.Outcome.{Outcome}
use Rattle.bully_calls.specs.declared.call.Phase.{Phase}
use Rattle.bully_calls.specs.Pending.{outcome_of, answer_of}
use Rattle.bully_handlers.specs.Vector.{Vector}
use Rattle.bully_steps.specs.declared.point.Point.{Point}
use Rattle.bully_steps.specs.declared.point.Point.TheVariants.{Idle, Asking, Halting, Announcing, Planning, Readying, Checking, Inquiring}
use Rattle.bully_steps.specs.declared.point.Want.{Want}
use Rattle.bully_steps.specs.ProcedureState.{ProcedureState, CanCome, is_started, resumed}
use Rattle.bully_steps.specs.NextPoint.{next_point, next_vector}
use Rattle.bully_steps.specs.Point.{offered}
use Rattle.bully_world.specs.declared.turn.StepKind.{StepKind}
use Rattle.bully_world.specs.NodeInvariant.{SuitsPhase}
use Rattle.bully_world.specs.Turn.{outcome_after, procedure_after}

-- a call's start keeps the point and the vector
pub started_stays : (setup : Setup) (i : ℕ) (u : List ℕ) (k : Option ℕ) (p : Point) (call : Call) → offered setup k p ≡ Want.Start call → next_point setup i u p Outcome.Started ≡ Some p
started_stays setup i u k Idle call e = absurd (grind (arith, e))
started_stays setup i u k (Asking j) call e = grind (arith, e)
started_stays setup i u k (Halting zero) call e = absurd (grind (arith, e))
started_stays setup i u k (Halting (suc j)) call e = refl
started_stays setup i u k (Announcing []) call e = absurd (grind (arith, e))
started_stays setup i u k (Announcing (j ∷ rest)) call e = refl
started_stays setup i u k Planning call e = absurd (grind (arith, e))
started_stays setup i u k (Readying []) call e = absurd (grind (arith, e))
started_stays setup i u k (Readying (j ∷ rest)) call e = refl
started_stays setup i u k (Checking j) call e = refl
started_stays setup i u k Inquiring call e = refl

pub started_vector : (i : ℕ) (p : Point) (v : Vector) → next_vector i p Outcome.Started v ≡ v
started_vector i Idle v = refl
started_vector i (Asking k) v = refl
started_vector i (Halting zero) v = refl
started_vector i (Halting (suc k)) v = refl
started_vector i (Announcing rest) v = refl
started_vector i Planning v = refl
started_vector i (Readying []) v = refl
started_vector i (Readying (k ∷ rest)) v = refl
started_vector i (Checking k) v = refl
started_vector i Inquiring v = refl

-- the outcome of a call that the point offers can come to a procedure that awaits it
pub can_come : (setup : Setup) (k : Option ℕ) (p : Point) (call : Call) (f : Phase) (o : Outcome) → offered setup k p ≡ Want.Start call → SuitsPhase call.kind f → outcome_of f ≡ Some o → CanCome Want.Await p o
can_come setup k p call f o offers suits done = grind (arith, offers, suits, done)

-- a call's outcome comes after its start, and tells its answer
pub came_back : (f : Phase) (o : Outcome) → outcome_of f ≡ Some o → (is_started o ≡ false) × (outcome_after StepKind.Return (answer_of o) ≡ Some o)
came_back f o done = (grind (arith, done), grind (arith, done))

-- the owner of the procedure stays
pub identity_after : (kind : StepKind) (a : Answer) (h : ProcedureState) → ((procedure_after kind a h).setup ≡ h.setup) × ((procedure_after kind a h).node ≡ h.node) × ((procedure_after kind a h).generation ≡ h.generation)
identity_after kind a h = by_outcome (outcome_after kind a)
  where
    by_outcome : (q : Option Outcome) → ((option_map_or (resumed h) q h).setup ≡ h.setup) × ((option_map_or (resumed h) q h).node ≡ h.node) × ((option_map_or (resumed h) q h).generation ≡ h.generation)
    by_outcome None = (refl, refl, refl)
    by_outcome (Some o) = (refl, refl, refl)
