use Rattle.std.proofs.Common.{refl}
use Rattle.bully_base.proofs.WordLemmas.{lowest-bit}
use Rattle.bully_base.proofs.node_set.lowest_bit.Goals as goal

pub returns : goal.returns
returns c = lowest-bit c.args.word _ c.ranges.word.fits c.requires refl
