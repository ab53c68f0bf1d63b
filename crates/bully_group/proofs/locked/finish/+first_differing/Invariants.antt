use Rattle.std.proofs.Common.{length}
use Rattle.bully_group.proofs.locked.finish.+first_differing.Given as goal

abbrev pub decreases-first_differing : goal.decreases-first_differing
decreases-first_differing l = length l.seats.now
