use Rattle.bully_explain.proofs.SidesLemmas.{beside}
use Rattle.bully_explain.proofs.sides.push_nodes.Goals as goal

pub returns : goal.returns
returns c =
    beside c.args.part.now _ _ c.push_part-start.result c.push_part-start.ensures.name c.push_part-start.ensures.start c.push_node.ensures c.push_gap.ensures c.push_node-2.ensures c.push_str.ensures
