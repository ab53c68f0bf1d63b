use Rattle.std.proofs.Common.{All, Contains, take}
use Rattle.bully_table.proofs.balance.are_members.Given as goal

abbrev pub invariant-loop-owner : goal.invariant-loop-owner
invariant-loop-owner l = All (Contains l.members) (take l.owner-index l.owners)
