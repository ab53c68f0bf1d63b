use Rattle.std.proofs.Common.{Some}
use Rattle.bully_workbench.proofs.bench.watching.watch_group.Given as goal

abbrev pub ghosts-watched_by-L-Naming : goal.ghosts-watched_by-L-Naming
ghosts-watched_by-L-Naming g a = record { setup = a.setup; publisher = Some a.publisher.publisher }

abbrev pub ghosts-watched_by-L-Ledger : goal.ghosts-watched_by-L-Ledger
ghosts-watched_by-L-Ledger g a = record { name = a.blank.name; parts = a.blank.parts }
