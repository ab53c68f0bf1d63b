-- An answer by name: an edit that breaks it is refused at once.
use Rattle.std.proofs.Common.{rules}
use Rattle.bully_account.proofs.showing.shown_of.Goals as goal

pub returns : goal.returns
returns c = search rules
