use Rattle.std.proofs.Common.{arith}
use Rattle.bully_agree.proofs.NodeViewLemmas.{shown-at}
use Rattle.bully_agree.proofs.views.node_views.kept.Goals as goal

pub returns : goal.returns
returns c = λ normal. shown-at normal c.args.nodes.now c.from.result c.args.node c.index-nodes-from.result (grind (arith, c.number.ensures.number, c.number.ensures.within, c.from.ensures)) c.requires c.index-nodes-from.is
