-- A node recovers: it was Idle with no call, and less is to be said of it, whether it keeps its task or not.
use Rattle.std.proofs.Common.{◌≡◌, ℕ, None, arith}
use Rattle.bully_base.specs.declared.node.Status.TheVariants.{Down}
use Rattle.bully_base.specs.Setup.{Setup, IsNode}
use Rattle.bully_handlers.specs.Vector.{recovered}
use Rattle.bully_steps.specs.NextPoint.{election}
use Rattle.bully_world.specs.NodeInvariant.{WorldInvariant}
use Rattle.bully_world.specs.World.{World, vector, pending, node_state, with_node_state}
use Rattle.bully_agree.proofs.Changes.Shrinks.{forgets, shrinks}
use Rattle.bully_agree.proofs.Fitting.{summary_of, written}
use Rattle.bully_agree.proofs.NodeSummary.{Origin, GroupInvariant}

pub recover_keeps : {last : Origin} (setup : Setup) (w : World) (i : ℕ) → WorldInvariant setup w → GroupInvariant last (summary_of setup w) → IsNode setup i → (vector w i).status ≡ Down
    → GroupInvariant last (summary_of setup (with_node_state w i (record (node_state w i) { vector = recovered setup (vector w i); point = election i })))
recover_keeps {last} setup w i all kept node down = shrinks (written setup w i _ all node) kept
    (forgets (grind (arith, free)) (grind arith) (grind arith) (grind arith) (grind arith) (grind (arith, free)) (grind (arith, free)))
  where
    free : pending w i ≡ None
    free = (all.fits i).down_free down
