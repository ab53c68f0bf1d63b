-- A node that leads plans its task: it hands the lower nodes the table from now on.
use Rattle.std.proofs.Common.{◌≡◌, ℕ, List, Some, None, arith}
use Rattle.bully_base.specs.Setup.{Setup}
use Rattle.bully_steps.specs.declared.point.Point.TheVariants.{Planning, Readying}
use Rattle.bully_world.proofs.MoveInvariant.{planning_up}
use Rattle.bully_world.proofs.NodeInvariantLemmas.{node_of_up}
use Rattle.bully_world.specs.NodeInvariant.{WorldInvariant}
use Rattle.bully_world.specs.World.{World, vector, point, pending, node_state, with_node_state}
use Rattle.bully_agree.proofs.Changes.Plans.{plans}
use Rattle.bully_agree.proofs.Fitting.{summary_of, written, all_local}
use Rattle.bully_agree.proofs.NodeSummary.{Hands, Origin, GroupInvariant, Turns}

pub plan_keeps : {last : Origin} (setup : Setup) (w : World) (i : ℕ) (table : List ℕ) → WorldInvariant setup w → GroupInvariant last (summary_of setup w) → point w i ≡ Planning → pending w i ≡ None
    → GroupInvariant (record { planner = Some i; table = Some table }) (summary_of setup (with_node_state w i (record { vector = record (vector w i) { task = Some table }; point = Readying (vector w i).up; pending = None })))
plan_keeps {last} setup w i table all kept planning free = plans (all_local setup w all) kept turn (grind (arith, planning))
  where
    now : World
    now = with_node_state w i (record { vector = record (vector w i) { task = Some table }; point = Readying (vector w i).up; pending = None })

    turn : Turns (summary_of setup w) (summary_of setup now) i (record (summary_of setup w i) { activity = Hands; task = Some table })
    turn = rw (planning, free) (written setup w i _ all (node_of_up setup w i all (planning_up setup i (node_state w i) (all.fits i) planning)))
