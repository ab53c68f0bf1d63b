use Rattle.std.proofs.Common.{arith, rules}
use Rattle.bully_agree.proofs.ViewLemmas.{view_keeps}
use Rattle.bully_agree.proofs.views.making.view.Goals as goal

pub invariant_of-result : goal.invariant_of-result
invariant_of-result c = grind (arith, view_keeps c.args.world.now c.events-events.ensures.reached, c.setup.ensures.setup, c.in_ok-of.ensures, c.events-events.ensures.events, c.in_ok-of-2.ensures)

pub returns-clause-agrees : goal.returns-clause-agrees
returns-clause-agrees c = grind (arith, (view_keeps c.args.world.now c.events-events.ensures.reached).agrees, c.setup.ensures.setup, c.in_ok-of.ensures, c.events-events.ensures.events, c.in_ok-of-2.ensures)

pub returns-clause-view : goal.returns-clause-view
returns-clause-view c = search rules
