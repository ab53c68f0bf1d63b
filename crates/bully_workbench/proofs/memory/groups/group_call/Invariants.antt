use Rattle.std.proofs.Common.{None}
use Rattle.bully_workbench.proofs.memory.groups.group_call.Given as goal

abbrev pub ghosts-tried_by-L-Naming : goal.ghosts-tried_by-L-Naming
ghosts-tried_by-L-Naming g a = record { setup = a.setup; publisher = None }

abbrev pub ghosts-tried_by-L-Ledger : goal.ghosts-tried_by-L-Ledger
ghosts-tried_by-L-Ledger g a = record { name = a.blank.name; parts = a.blank.parts }
