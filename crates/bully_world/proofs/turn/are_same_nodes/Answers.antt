-- Sets are the same where their words are.
use Rattle.std.proofs.Common.{◌+◌, arith}
use Rattle.bully_base.specs.declared.TheConstants.{NODES_MAX}
use Rattle.std.proofs.lemmas.Bool.Decides.{nat_tests}
use Rattle.bully_base.proofs.NodeSetLemmas.{same_set_test, sizes_differ}
use Rattle.bully_world.proofs.turn.are_same_nodes.Goals as goal

pub returns-then-len : goal.returns-then-len
returns-then-len c = same_set_test (NODES_MAX + 1) c.args.set.now c.args.other.now c.eq.result c.len.ensures.falling c.len-2.ensures.falling c.eq.ensures

pub returns-else-len : goal.returns-else-len
returns-else-len c =
    let apart = sizes_differ c.args.set.now c.args.other.now (λ e. c.if-len.false (grind (arith, e, c.len.ensures.len, c.len-2.ensures.len))) in
    grind (arith, nat_tests, apart, c.if-len.false)
