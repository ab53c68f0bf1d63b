-- A node crashes: nothing is to be said of it any more. A task that it keeps says nothing, since it isn't Normal.
use Rattle.std.proofs.Common.{ℕ, None, arith, refl}
use Rattle.bully_base.specs.Setup.{Setup}
use Rattle.bully_handlers.specs.Vector.{crashed}
use Rattle.bully_steps.specs.declared.point.Point.TheVariants.{Idle}
use Rattle.bully_world.proofs.NodeInvariantLemmas.{node_of_up}
use Rattle.bully_world.specs.NodeInvariant.{WorldInvariant}
use Rattle.bully_world.specs.Step.{IsUp}
use Rattle.bully_world.specs.World.{World, vector, with_node_state}
use Rattle.bully_agree.proofs.Changes.Shrinks.{forgets, shrinks}
use Rattle.bully_agree.proofs.Fitting.{summary_of, written}
use Rattle.bully_agree.proofs.NodeSummary.{Origin, GroupInvariant}

pub crash_keeps : {last : Origin} (setup : Setup) (w : World) (i : ℕ) → WorldInvariant setup w → GroupInvariant last (summary_of setup w) → IsUp w i
    → GroupInvariant last (summary_of setup (with_node_state w i (record { vector = crashed setup (vector w i); point = Idle; pending = None })))
crash_keeps {last} setup w i all kept up = shrinks (written setup w i _ all (node_of_up setup w i all up)) kept (forgets (grind arith) (grind arith) refl refl refl refl refl)
