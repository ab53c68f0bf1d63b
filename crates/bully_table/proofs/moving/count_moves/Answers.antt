use Rattle.std.proofs.Common.{arith}
use Rattle.std.proofs.lemmas.Grind.{common_steps}
use Rattle.std.proofs.lemmas.Bool.Decides.{nat_tests}
use Rattle.bully_table.proofs.PlanSteps.{moves-none, moves-yes, moves-no}
use Rattle.bully_table.proofs.moving.count_moves.Goals as goal
use Rattle.bully_table.proofs.moving.count_moves.Goals.{then-ne, else-ne}

pub loop-place-init : goal.loop-place-init
loop-place-init c = (omega arith, moves-none c.args.old.now c.args.new.now)

pub loop-place-preserved : goal.loop-place-preserved
loop-place-preserved c =
    elim c.if-ne.branch [
      | then-ne w ↦ (omega arith, rw w.count-is (moves-yes c.args.old.now c.args.new.now c.loop-place.place c.loop-place.count c.loop-place.invariant.1 (grind (arith, nat_tests, common_steps))))
      | else-ne w ↦ (omega arith, rw w.count-is (moves-no c.args.old.now c.args.new.now c.loop-place.place c.loop-place.count c.loop-place.invariant.1 (grind (arith, nat_tests, common_steps))))
    ]
