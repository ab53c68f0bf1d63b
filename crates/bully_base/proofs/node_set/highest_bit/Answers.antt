use Rattle.std.proofs.Common.{refl}
use Rattle.bully_base.proofs.WordLemmas.{highest-bit}
use Rattle.bully_base.proofs.node_set.highest_bit.Goals as goal

pub returns : goal.returns
returns c = highest-bit c.args.word _ _ c.ranges.word.fits c.requires refl refl
