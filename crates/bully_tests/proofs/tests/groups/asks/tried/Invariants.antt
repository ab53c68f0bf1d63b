use Rattle.bully_tests.proofs.tests.groups.asks.tried.Given as goal

abbrev pub ghosts-tried_by-L-Naming : goal.ghosts-tried_by-L-Naming
ghosts-tried_by-L-Naming g a = record { setup = a.setup; publisher = a.beside.now.watchers }

abbrev pub ghosts-tried_by-L-Ledger : goal.ghosts-tried_by-L-Ledger
ghosts-tried_by-L-Ledger g a = record { name = a.blank.name; parts = a.blank.parts }
