use Rattle.std.proofs.Common.{◌≡◌, map, take}
use Rattle.bully_c.specs.OldTables.{owner_before}
use Rattle.bully_c.proofs.old_tables.kept_owners.Given as goal

abbrev pub invariant-loop-owner : goal.invariant-loop-owner
invariant-loop-owner l = l.kept.items ≡ map (owner_before l.nodes) (take l.owner-index l.owners)
