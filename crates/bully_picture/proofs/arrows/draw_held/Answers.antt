use Rattle.std.proofs.Common.{ap}
use Rattle.bully_picture.specs.Drawn.{has_failed}
use Rattle.bully_picture.proofs.DrawnLemmas.{drawn-gains, failed-gains}
use Rattle.bully_picture.proofs.arrows.draw_held.Goals as goal

pub returns-in-Sent : goal.returns-in-Sent
returns-in-Sent c =
    drawn-gains c.args.node c.args.holding.now.first c.args.holding.now.last c.args.held c.args.arrows.now c.draw_call.new.arrows (ap has_failed c.in-Sent.is) c.draw_call.ensures

pub returns-in-Ran : goal.returns-in-Ran
returns-in-Ran c =
    drawn-gains c.args.node c.args.holding.now.first c.args.holding.now.last c.args.held c.args.arrows.now c.draw_reply.new.arrows (ap has_failed c.in-Ran.is) c.draw_reply.ensures

pub returns-in-Failed : goal.returns-in-Failed
returns-in-Failed c = failed-gains c.args.node c.args.holding.now.first c.args.holding.now.last c.args.held c.args.arrows.now c.in-Failed.is
