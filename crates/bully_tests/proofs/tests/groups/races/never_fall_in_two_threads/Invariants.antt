use Rattle.std.proofs.Common.{Some}
use Rattle.bully_tests.proofs.tests.groups.races.never_fall_in_two_threads.Given as goal

abbrev pub ghosts-counts_by-L-Naming : goal.ghosts-counts_by-L-Naming
ghosts-counts_by-L-Naming g a = record { setup = a.setup; publisher = Some a.publisher.publisher }

abbrev pub ghosts-counts_by-L-Ledger : goal.ghosts-counts_by-L-Ledger
ghosts-counts_by-L-Ledger g a = record { name = a.blank.name; parts = a.blank.parts }
