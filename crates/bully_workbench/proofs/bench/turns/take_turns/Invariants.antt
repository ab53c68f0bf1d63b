use Rattle.std.proofs.Common.{None}
use Rattle.bully_workbench.proofs.bench.turns.take_turns.Given as goal

abbrev pub ghosts-turns_by-L-Naming : goal.ghosts-turns_by-L-Naming
ghosts-turns_by-L-Naming g a = record { setup = a.setup; publisher = None }

abbrev pub ghosts-turns_by-L-Ledger : goal.ghosts-turns_by-L-Ledger
ghosts-turns_by-L-Ledger g a = record { name = a.blank.name; parts = a.blank.parts }
