use Rattle.std.proofs.Common.{◌+◌, ◌-◌, arith, refl}
use Rattle.bully_base.proofs.UsedLemmas.{last-used, none-used}
use Rattle.bully_base.proofs.node_set.count_used.Goals as goal

pub returns-then-word-ne0-clause-used : goal.returns-then-word-ne0-clause-used
returns-then-word-ne0-clause-used c =
    last-used c.args.words.now (c.loop-place.place - 1) (c.loop-place.place - 1 + 1) refl c.if-word-ne0.true (λ p l. c.loop-place.invariant.1 p (omega (arith, l)))

pub returns-clause-used : goal.returns-clause-used
returns-clause-used c = none-used c.args.words.now (λ p. c.loop-place.invariant.1 p (omega arith))
