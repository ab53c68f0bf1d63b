use Rattle.std.proofs.Common.{All}
use Rattle.bully_nodes.specs.Run.{HasDueLog}
use Rattle.bully_nodes.proofs.jobs.split_jobs.Given as goal

abbrev pub invariant-loop-job : goal.invariant-loop-job
invariant-loop-job g l = All (HasDueLog g.L.Scheduled.faults) l.seats.items
