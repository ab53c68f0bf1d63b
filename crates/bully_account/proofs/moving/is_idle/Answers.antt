-- A node that the group doesn't have is idle.
use Rattle.std.proofs.Common.{◌<◌, arith, sym}
use Rattle.bully_account.proofs.MovingLemmas.{beyond-idle}
use Rattle.bully_account.proofs.moving.is_idle.Goals as goal

pub returns-then-number-nodes : goal.returns-then-number-nodes
returns-then-number-nodes c =
    let past : c.args.world.now.setup.nodes < c.args.node = grind (arith, c.setup.ensures.setup, c.nodes.ensures.nodes, c.number.ensures.number, c.if-number-nodes.true) in
    sym (beyond-idle c.args.world.now c.args.node c.setup.ensures.reached past)
