-- An answer by name: an edit that breaks it is refused at once.
use Rattle.std.proofs.Common.{rules}
use Rattle.bully_account.proofs.possible.passes.Goals as goal

pub returns-in-Some : goal.returns-in-Some
returns-in-Some c = search rules
