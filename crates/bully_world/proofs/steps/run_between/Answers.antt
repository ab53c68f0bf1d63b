-- The two states stand in the two parts of the list.
use Rattle.std.proofs.Common.{arith}
use Rattle.std.proofs.lemmas.Grind.{common_steps}
use Rattle.bully_world.proofs.SplitLemmas.{set-split, set-set}
use Rattle.bully_world.proofs.steps.run_between.Goals as goal

pub returns-then-there-here-clause-after : goal.returns-then-there-here-clause-after
returns-then-there-here-clause-after c = grind (arith, common_steps, set-split, set-set, c.exchange.ensures.calling, c.exchange.ensures.called, c.split_at_mut-lower.ensures.front, c.split_at_mut-lower.ensures.back)

pub returns-else-there-here-clause-after : goal.returns-else-there-here-clause-after
returns-else-there-here-clause-after c = grind (arith, common_steps, set-split, set-set, c.exchange-else-there-here.ensures.calling, c.exchange-else-there-here.ensures.called, c.split_at_mut-lower-else-there-here.ensures.front, c.split_at_mut-lower-else-there-here.ensures.back)
