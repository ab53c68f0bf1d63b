use Rattle.bully_tests.proofs.tests.groups.two_groups.used_as_told.Given as goal

abbrev pub ghosts-used_by-L-Naming : goal.ghosts-used_by-L-Naming
ghosts-used_by-L-Naming g a = record { setup = a.setup; publisher = a.beside.now.watchers }

abbrev pub ghosts-used_by-L-Ledger : goal.ghosts-used_by-L-Ledger
ghosts-used_by-L-Ledger g a = record { name = a.blank.name; parts = a.blank.parts }
