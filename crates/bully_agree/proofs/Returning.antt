-- A call returns: its caller's election comes no further than the call had brought it.
use Rattle.std.proofs.Common.{◌≡◌, ℕ, Bool, true, false, Some, None, arith}
use Rattle.bully_base.specs.Setup.{Setup}
use Rattle.bully_calls.specs.declared.call.Answer.{Answer}
use Rattle.bully_calls.specs.declared.call.Outcome.{Outcome}
use Rattle.bully_calls.specs.Pending.{Pending, outcome_of}
use Rattle.bully_handlers.specs.Vector.{Vector}
use Rattle.bully_steps.specs.declared.point.Point.{Point}
use Rattle.bully_steps.specs.NextPoint.{next_point, next_vector}
use Rattle.bully_world.proofs.NodeInvariantLemmas.{node_of_pending}
use Rattle.bully_world.specs.NodeInvariant.{WorldInvariant}
use Rattle.bully_world.specs.Step.{Returns}
use Rattle.bully_world.specs.World.{World, vector, point, pending}
use Rattle.bully_agree.proofs.Changes.Shrinks.{Shrinks, shrinks}
use Rattle.bully_agree.proofs.Dropping.{drop_keeps}
use Rattle.bully_agree.proofs.Fitting.{summary, summary_of, written}
use Rattle.bully_agree.proofs.NodeSummary.{NodeSummary, Origin, GroupInvariant}

module _ (setup : Setup) (i : ℕ) (v : Vector) (p : Point) (c : Pending) (f : ℕ → NodeSummary) where
  -- what a live call brought was read off the call already
  live_shrinks : (o : Outcome) (q : Point) → c.is_live ≡ true → outcome_of c.phase ≡ Some o → next_point setup i v.up p o ≡ Some q
      → Shrinks f i (summary setup.nodes i v p (Some c)) (summary setup.nodes i (next_vector i p o v) q None)
  live_shrinks o q live done next = record {
    asked = λ k l a. grind (arith, done, next, live);
    passed = λ k l a. grind (arith, done, next, live);
    halts = λ h. grind (arith, done, next);
    halted = λ m h e. grind (arith, done, next);
    takes_part_on = λ h. grind (arith, done, next);
    leads_on = λ h. grind (arith, done, next);
    announces_on = λ k e. grind arith;
    readies_on = λ k e. grind arith;
  }

pub return_keeps : {last : Origin} (setup : Setup) (w w' : World) (i : ℕ) (c : Pending) (o : Outcome) (a : Answer) (live : Bool) → c.is_live ≡ live
    → WorldInvariant setup w → GroupInvariant last (summary_of setup w) → pending w i ≡ Some c → outcome_of c.phase ≡ Some o → Returns setup w i live o w' a
    → GroupInvariant last (summary_of setup w')
return_keeps {last} setup w w' i c o a true live all kept is done ((q, next, becomes), answered) =
    rw becomes (shrinks (written setup w i _ all (node_of_pending setup w i c all is).0) kept
    (rw is (live_shrinks setup i (vector w i) (point w i) c (summary_of setup w) o q live done next)))
return_keeps {last} setup w w' i c o a false live all kept is done (becomes, answered) = rw becomes (drop_keeps setup w i c all kept is live)
