-- No actor is taken at first.
use Rattle.std.proofs.Common.{◌+◌}
use Rattle.bully_base.specs.declared.TheConstants.{NODES_MAX}
use Rattle.bully_group.proofs.FinishLemmas.{all_free}
use Rattle.bully_group.proofs.locked.finish.has_stranger.Goals as goal

pub returns : goal.returns
returns c = (λ r. (c.has_stranger_among.ensures.0 r).0, λ all. c.has_stranger_among.ensures.1 (all, all_free (NODES_MAX + 1) c.args.seats.now))
