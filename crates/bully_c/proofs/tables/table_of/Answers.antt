use Rattle.std.proofs.Common.{arith}
use Rattle.bully_c.proofs.SetupLemmas.{owners-given, refused-given}
use Rattle.bully_c.proofs.tables.table_of.Goals as goal

pub returns-in-Ok-clause-owners : goal.returns-in-Ok-clause-owners
returns-in-Ok-clause-owners c = owners-given c.args.setup.now c.args.owners.now c.in-Ok.ensures.owners

pub returns-in-Err-clause-err : goal.returns-in-Err-clause-err
returns-in-Err-clause-err c =
    refused-given c.args.setup.now c.args.owners.now c.in-Err.status (grind (arith, c.if-is_empty.false, c.is_empty.ensures)) c.in-Err.ensures.err
