use Rattle.std.proofs.Common.{arith, refl, rules}
use Rattle.bully_c.proofs.OldTableLemmas.{old-are, old-memory}
use Rattle.bully_c.proofs.old_tables.old_table.Goals as goal

pub returns-in-Some-clause-are : goal.returns-in-Some-clause-are
returns-in-Some-clause-are c = old-are c.args.setup.now c.args.owners.now (search rules) (search rules)

pub returns-in-None-clause-err : goal.returns-in-None-clause-err
returns-in-None-clause-err c =
    old-memory c.args.setup.now c.args.owners.now _ (grind (arith, c.if-is_empty.false, c.is_empty.ensures)) refl (search rules) (search rules)
