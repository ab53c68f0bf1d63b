use Rattle.std.proofs.Common.{All, take}
use Rattle.bully_base.specs.Setup.{IsWeight}
use Rattle.bully_base.proofs.setup.are_within.Given as goal

abbrev pub invariant-loop-weight : goal.invariant-loop-weight
invariant-loop-weight l = All IsWeight (take l.weight-index l.weights)
