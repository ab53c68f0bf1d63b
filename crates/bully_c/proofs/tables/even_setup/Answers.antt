use Rattle.std.proofs.Common.{◌≡◌, arith, replicate, take}
use Rattle.bully_base.specs.declared.TheConstants.{NODES_MAX}
use Rattle.bully_c.proofs.SetupLemmas.{ones-err, ones-ok}
use Rattle.bully_c.proofs.tables.even_setup.Goals as goal

pub returns-clause-ok : goal.returns-clause-ok
returns-clause-ok c =
    let ones : c.first_of.result.now ≡ take c.args.setup.now.nodes (replicate NODES_MAX 1) = grind (arith, c.first_of.ensures, c.from.ensures) in
    ones-ok c.args.setup.now c.first_of.result.now c.weighted_setup.result ones c.weighted_setup.ensures.ok c.weighted_setup.ensures.within

pub returns-clause-err : goal.returns-clause-err
returns-clause-err c =
    let ones : c.first_of.result.now ≡ take c.args.setup.now.nodes (replicate NODES_MAX 1) = grind (arith, c.first_of.ensures, c.from.ensures) in
    ones-err c.args.setup.now c.first_of.result.now c.weighted_setup.result ones c.weighted_setup.ensures.err
