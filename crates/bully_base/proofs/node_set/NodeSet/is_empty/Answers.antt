use Rattle.std.proofs.Common.{◌≡◌, arith, is_none}
use Rattle.bully_base.proofs.NodeSetLemmas.{lowest-empty}
use Rattle.bully_base.proofs.node_set.NodeSet.is_empty.Goals as goal

pub returns : goal.returns
returns c =
    let same : c.is_none.result ≡ is_none c.lowest.result = grind (arith, c.is_none.ensures) in
    rw same (lowest-empty c.args.self.now c.lowest.result c.lowest.ensures.lowest)
