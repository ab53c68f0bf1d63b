-- An answer by name: an edit that breaks it is refused at once.
use Rattle.std.proofs.Common.{rules}
use Rattle.bully_account.proofs.telling.fault_told.Goals as goal

pub returns-clause-told : goal.returns-clause-told
returns-clause-told c = search rules
