-- A node that the group doesn't have is down.
use Rattle.std.proofs.Common.{◌<◌, ◌∙◌, ap, arith, sym}
use Rattle.bully_film.specs.Scene.{seen_of}
use Rattle.bully_film.proofs.BehindLemmas.{beyond-empty}
use Rattle.bully_film.proofs.snapshot.snapshot_of.Goals as goal

pub returns-then-number-nodes : goal.returns-then-number-nodes
returns-then-number-nodes c =
    let past : c.args.world.now.setup.nodes < c.args.node = grind (arith, c.setup.ensures.setup, c.nodes.ensures.nodes, c.number.ensures.number, c.if-number-nodes.true) in
    c.unseen.ensures ∙ sym (ap seen_of (beyond-empty c.args.world.now c.args.node c.setup.ensures.reached past))
