use Rattle.bully_account.proofs.PossibleLemmas.{passing-listed}
use Rattle.bully_account.proofs.possible.possible_now.Goals as goal

pub returns : goal.returns
returns c = passing-listed c.args.world.now c.args.node c.in_ok-can_plan.can_plan c.event_kinds_passing.result c.in_ok-can_plan.ensures c.event_kinds_passing.ensures
