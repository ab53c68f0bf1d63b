-- Answers by name: an edit that breaks one is refused at once.
use Rattle.std.proofs.Common.{rules}
use Rattle.bully_group.proofs.locked.Locked.turn.Goals as goal

pub returns-in-Ok-Went-clause-went : goal.returns-in-Ok-Went-clause-went
returns-in-Ok-Went-clause-went g c = search rules

pub returns-in-Ok-Waiting-clause-waiting : goal.returns-in-Ok-Waiting-clause-waiting
returns-in-Ok-Waiting-clause-waiting g c = search rules

pub returns-in-Ok-Resynced-clause-resynced : goal.returns-in-Ok-Resynced-clause-resynced
returns-in-Ok-Resynced-clause-resynced g c = search rules
