use Rattle.bully_table.proofs.BalanceSteps.{not-all, all-more, all-end}
use Rattle.bully_table.proofs.balance.are_members.Goals as goal

pub returns-then-not-has : goal.returns-then-not-has
returns-then-not-has c = not-all c.args.members.now c.args.owners.now c.loop-owner.owner-index c.owner-item.result c.has.result c.loop-owner-test.true c.owner-item.is c.has.ensures.1 c.if-not-has.true

pub loop-owner-preserved : goal.loop-owner-preserved
loop-owner-preserved c = all-more c.args.members.now c.args.owners.now c.loop-owner.owner-index c.owner-item.result c.has.result c.loop-owner-test.true c.owner-item.is c.has.ensures.0 c.if-not-has.false c.loop-owner.invariant

pub returns : goal.returns
returns c = all-end c.args.members.now c.args.owners.now c.loop-owner.owner-index c.loop-owner-test.false c.loop-owner.invariant
