use Rattle.std.proofs.Common.{get_or, refl, rules}
use Rattle.bully_c.specs.OldTables.{owner_before}
use Rattle.bully_c.proofs.MappedLemmas.{mapped-more}
use Rattle.bully_c.proofs.old_tables.kept_owners.Goals as goal

pub loop-owner-preserved : goal.loop-owner-preserved
loop-owner-preserved c =
    mapped-more (owner_before c.args.nodes) c.args.owners.now c.loop-owner.owner-index 0 (get_or c.args.owners.now c.loop-owner.owner-index 0) _ _
    c.loop-owner-test.true refl c.loop-owner.invariant (search rules)
