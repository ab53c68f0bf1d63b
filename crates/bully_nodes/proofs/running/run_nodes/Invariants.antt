use Rattle.std.proofs.Common.{None}
use Rattle.bully_nodes.proofs.running.run_nodes.Given as goal

abbrev pub ghosts-run_group-L-Naming : goal.ghosts-run_group-L-Naming
ghosts-run_group-L-Naming g a = record { setup = a.config.now.setup; publisher = None }

abbrev pub ghosts-run_group-L-Ledger : goal.ghosts-run_group-L-Ledger
ghosts-run_group-L-Ledger g a = record { name = a.blank.name; parts = a.blank.parts }

abbrev pub ghosts-run_group-L-Scheduled : goal.ghosts-run_group-L-Scheduled
ghosts-run_group-L-Scheduled g a = record { faults = a.config.now.faults }
