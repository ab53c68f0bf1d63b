use Rattle.std.proofs.Common.{take}
use Rattle.bully_group.specs.Finish.{AllStand}
use Rattle.bully_group.proofs.locked.finish.all_stand.Given as goal

abbrev pub invariant-loop-item : goal.invariant-loop-item
invariant-loop-item l = AllStand l.history (take l.item-index l.log)
