use Rattle.std.proofs.Common.{◌+◌, arith}
use Rattle.bully_base.specs.declared.TheConstants.{NODES_MAX}
use Rattle.bully_rebalance.proofs.Telling.{has_fewer}
use Rattle.bully_rebalance.proofs.rebalancing.others.Goals as goal

pub returns-clause-few : goal.returns-clause-few
returns-clause-few c =
    let fewer = has_fewer c.args.live.now (NODES_MAX + 1) (omega arith) c.len.ensures.falling in
    omega (arith, fewer, c.len.ensures.len)
