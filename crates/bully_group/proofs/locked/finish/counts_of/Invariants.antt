use Rattle.std.proofs.Common.{◌≡◌, ◌+◌, length, take}
use Rattle.bully_base.specs.declared.TheConstants.{NODES_MAX}
use Rattle.bully_group.specs.Finish.{AreCounts}
use Rattle.bully_group.proofs.locked.finish.counts_of.Given as goal

abbrev pub invariant-loop-entry : goal.invariant-loop-entry
invariant-loop-entry l = (length l.counts ≡ NODES_MAX + 1) × AreCounts (take l.entry-index l.history) l.counts
