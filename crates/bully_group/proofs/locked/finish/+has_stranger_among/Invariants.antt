use Rattle.std.proofs.Common.{length}
use Rattle.bully_group.proofs.locked.finish.+has_stranger_among.Given as goal

abbrev pub decreases-has_stranger_among : goal.decreases-has_stranger_among
decreases-has_stranger_among l = length l.seats.now
