use Rattle.std.proofs.Common.{All, take}
use Rattle.bully_c.specs.OldTables.{IsOldOwner}
use Rattle.bully_c.proofs.old_tables.are_old.Given as goal

abbrev pub invariant-loop-owner : goal.invariant-loop-owner
invariant-loop-owner l = All (IsOldOwner l.setup) (take l.owner-index l.owners)
