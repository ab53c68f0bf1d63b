-- A node that the group doesn't have is idle.
use Rattle.std.proofs.Common.{◌<◌, ap, arith, sym}
use Rattle.bully_world.specs.Cause.{is_idle}
use Rattle.bully_world.specs.World.{NodeState}
use Rattle.bully_film.proofs.BehindLemmas.{beyond-empty}
use Rattle.bully_film.proofs.scene.is_idle.Goals as goal

pub returns-then-number-nodes : goal.returns-then-number-nodes
returns-then-number-nodes c =
    let past : c.args.world.now.setup.nodes < c.args.node = grind (arith, c.setup.ensures.setup, c.nodes.ensures.nodes, c.number.ensures.number, c.if-number-nodes.true) in
    sym (ap (λ (m : NodeState). is_idle m.point) (beyond-empty c.args.world.now c.args.node c.setup.ensures.reached past))
