-- An answer by name: an edit that breaks it is refused at once.
use Rattle.std.proofs.Common.{rules}
use Rattle.bully_account.proofs.memory.forget_first.Goals as goal

pub returns-clause-notes : goal.returns-clause-notes
returns-clause-notes c = search rules
