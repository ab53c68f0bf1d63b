-- An orphan is taken out of its slot, by its drop or by its return: it has brought its caller's election no further.
use Rattle.std.proofs.Common.{◌≡◌, ℕ, false, Some, None, arith, refl}
use Rattle.bully_base.specs.Setup.{Setup}
use Rattle.bully_calls.specs.Pending.{Pending}
use Rattle.bully_handlers.specs.Vector.{Vector}
use Rattle.bully_steps.specs.declared.point.Point.{Point}
use Rattle.bully_world.proofs.NodeInvariantLemmas.{node_of_pending}
use Rattle.bully_world.specs.NodeInvariant.{WorldInvariant}
use Rattle.bully_world.specs.Step.{emptied}
use Rattle.bully_world.specs.World.{World, vector, point, pending}
use Rattle.bully_agree.proofs.Changes.Shrinks.{Shrinks, calls_on, shrinks}
use Rattle.bully_agree.proofs.Fitting.{summary, summary_of, written}
use Rattle.bully_agree.proofs.NodeSummary.{NodeSummary, Origin, GroupInvariant}

-- an orphan brought nothing
orphan_shrinks : (setup : Setup) (i : ℕ) (v : Vector) (p : Point) (c : Pending) (f : ℕ → NodeSummary) → c.is_live ≡ false → Shrinks f i (summary setup.nodes i v p (Some c)) (summary setup.nodes i v p None)
orphan_shrinks setup i v p c f orphan = calls_on refl (grind (arith, orphan)) (grind (arith, orphan)) (λ k e. grind arith) (λ k e. grind arith)

pub drop_keeps : {last : Origin} (setup : Setup) (w : World) (i : ℕ) (c : Pending) → WorldInvariant setup w → GroupInvariant last (summary_of setup w) → pending w i ≡ Some c → c.is_live ≡ false → GroupInvariant last (summary_of setup (emptied w i))
drop_keeps {last} setup w i c all kept is orphan =
    shrinks (written setup w i _ all (node_of_pending setup w i c all is).0) kept (rw is (orphan_shrinks setup i (vector w i) (point w i) c (summary_of setup w) orphan))
