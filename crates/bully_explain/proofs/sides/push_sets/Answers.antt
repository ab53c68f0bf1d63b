use Rattle.bully_explain.proofs.SidesLemmas.{beside}
use Rattle.bully_explain.proofs.sides.push_sets.Goals as goal

pub returns : goal.returns
returns c =
    beside c.args.part.now _ _ c.push_part-start.result c.push_part-start.ensures.name c.push_part-start.ensures.start c.push_set.ensures c.push_gap.ensures c.push_set-2.ensures c.push_str.ensures
