-- Each helper speaks of every setup and up set: here of those at hand.
use Rattle.std.proofs.Common.{arith}
use Rattle.bully_steps.proofs.point_kind.PointKind.next.Goals as goal

pub returns-in-Asking : goal.returns-in-Asking
returns-in-Asking c = λ up. grind (arith, c.after_asking.ensures up, c.in-Asking.is)

pub returns-in-Halting : goal.returns-in-Halting
returns-in-Halting c = λ up. grind (arith, c.after_halting.ensures c.args.setup.now c.args.node up, c.in-Halting.is)

pub returns-in-Announcing : goal.returns-in-Announcing
returns-in-Announcing c = λ up. grind (arith, c.after_announcing.ensures c.args.setup.now up, c.in-Announcing.is)

pub returns-in-Readying : goal.returns-in-Readying
returns-in-Readying c = λ up. grind (arith, c.after_readying.ensures c.args.setup.now up, c.in-Readying.is)

pub returns-in-Checking : goal.returns-in-Checking
returns-in-Checking c = λ up. grind (arith, c.after_checking.ensures up, c.in-Checking.is)
