use Rattle.std.proofs.Common.{Some}
use Rattle.bully_tests.proofs.snippets.watching.recovered.Given as goal

abbrev pub ghosts-watched-L-Naming : goal.ghosts-watched-L-Naming
ghosts-watched-L-Naming g a = record { setup = a.setup; publisher = Some a.publisher.publisher }

abbrev pub ghosts-watched-L-Ledger : goal.ghosts-watched-L-Ledger
ghosts-watched-L-Ledger g a = record { name = a.blank.name; parts = a.blank.parts }
