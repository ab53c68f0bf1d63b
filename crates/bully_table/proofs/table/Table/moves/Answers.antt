-- Each goal is named, so that a wrong body is refused at once.
use Rattle.std.proofs.Common.{rules}
use Rattle.bully_table.proofs.table.Table.moves.Goals as goal

pub returns : goal.returns
returns c = search rules
