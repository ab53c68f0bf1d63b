-- An answer by name: an edit that breaks it is refused at once.
use Rattle.std.proofs.Common.{rules}
use Rattle.bully_rows.proofs.header.Version.nodes_max.Goals as goal

pub returns-in-One-clause-most : goal.returns-in-One-clause-most
returns-in-One-clause-most c = search rules
