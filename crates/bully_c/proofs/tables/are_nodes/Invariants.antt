use Rattle.std.proofs.Common.{All, take}
use Rattle.bully_base.specs.Setup.{IsNode}
use Rattle.bully_c.proofs.tables.are_nodes.Given as goal

abbrev pub invariant-loop-owner : goal.invariant-loop-owner
invariant-loop-owner l = All (IsNode l.setup) (take l.owner-index l.owners)
