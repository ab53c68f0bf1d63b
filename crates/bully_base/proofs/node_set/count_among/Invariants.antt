use Rattle.std.proofs.Common.{◌≡◌, ◌≤◌, ◌*◌, take}
use Rattle.std.specs.Int.Count.{ones}
use Rattle.bully_base.specs.NodeSet.{number_of}
use Rattle.bully_base.proofs.node_set.count_among.Given as goal

abbrev pub invariant-loop-word : goal.invariant-loop-word
invariant-loop-word l = (l.count ≤ 64 * l.word-index) × (l.count ≡ ones (number_of (take l.word-index l.words)))
