-- An idle node checks the others or begins an election: it has asked past nobody and passed nobody yet.
use Rattle.std.proofs.Common.{◌≡◌, ℕ, false, Option, Some, None, arith, refl}
use Rattle.bully_base.specs.Setup.{Setup}
use Rattle.bully_calls.specs.Pending.{Pending}
use Rattle.bully_handlers.specs.Vector.{Vector}
use Rattle.bully_steps.specs.declared.point.Point.{Point}
use Rattle.bully_steps.specs.declared.point.Point.TheVariants.{Idle}
use Rattle.bully_steps.specs.NextPoint.{checked, timed_out}
use Rattle.bully_world.proofs.NodeInvariantLemmas.{node_of_up}
use Rattle.bully_world.specs.NodeInvariant.{WorldInvariant, IsBeginning, SuitsPending}
use Rattle.bully_world.specs.Step.{IsUp}
use Rattle.bully_world.specs.World.{World, vector, point, pending, node_state, with_node_state}
use Rattle.bully_agree.proofs.Changes.Shrinks.{shrinks}
use Rattle.bully_agree.proofs.Fitting.{has_failed, summary_of, written}
use Rattle.bully_agree.proofs.NodeSummary.{Origin, GroupInvariant}

-- an idle node has no live call, so none that failed
unfailed : (setup : Setup) (i : ℕ) (v : Vector) (c : Option Pending) → SuitsPending setup i v Idle c → has_failed c ≡ false
unfailed setup i v None suits = refl
unfailed setup i v (Some c) suits = grind (arith, suits.live)

begin_keeps : {last : Origin} (setup : Setup) (w : World) (i : ℕ) (q : Point) → WorldInvariant setup w → GroupInvariant last (summary_of setup w) → IsUp w i → point w i ≡ Idle → IsBeginning i q
    → GroupInvariant last (summary_of setup (with_node_state w i (record (node_state w i) { point = q })))
begin_keeps {last} setup w i q all kept up idle begins = shrinks (written setup w i _ all (node_of_up setup w i all up)) kept (record {
  asked = λ k l a. grind (arith, begins, no_failure);
  passed = λ k l a. grind (arith, idle);
  halts = λ h. grind (arith, begins);
  halted = λ m h e. grind arith;
  takes_part_on = λ h. grind arith;
  leads_on = λ h. grind (arith, begins);
  announces_on = λ k e. e;
  readies_on = λ k e. (e, refl);
})
  where
    no_failure : has_failed (pending w i) ≡ false
    no_failure = unfailed setup i (vector w i) (pending w i) (rw idle at (all.fits i).by_call)

pub check_keeps : {last : Origin} (setup : Setup) (w : World) (i : ℕ) → WorldInvariant setup w → GroupInvariant last (summary_of setup w) → IsUp w i → point w i ≡ Idle
    → GroupInvariant last (summary_of setup (with_node_state w i (record (node_state w i) { point = checked setup i (vector w i).status (vector w i).coordinator })))
check_keeps {last} setup w i all kept up idle = begin_keeps setup w i _ all kept up idle (grind arith)

pub timeout_keeps : {last : Origin} (setup : Setup) (w : World) (i : ℕ) → WorldInvariant setup w → GroupInvariant last (summary_of setup w) → IsUp w i → point w i ≡ Idle
    → GroupInvariant last (summary_of setup (with_node_state w i (record (node_state w i) { point = timed_out i (vector w i).status (vector w i).coordinator })))
timeout_keeps {last} setup w i all kept up idle = begin_keeps setup w i _ all kept up idle (grind arith)
