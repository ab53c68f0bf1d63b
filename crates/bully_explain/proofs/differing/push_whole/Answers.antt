use Rattle.std.proofs.Common.{◌≡◌, arith, subst}
use Rattle.bully_rows.specs.declared.trace.Claim.{Claim}
use Rattle.bully_world.specs.State.{state_at}
use Rattle.bully_explain.specs.Differing.{whole_text}
use Rattle.bully_explain.proofs.DifferingLemmas.{of_node}
use Rattle.bully_explain.proofs.differing.push_whole.Goals as goal

pub returns-then-has_node : goal.returns-then-has_node
returns-then-has_node c =
    let there = subst (λ (k : Claim). c.vector.result.now ≡ (state_at c.args.world.now k.node).vector) c.claim-node.ensures c.vector.ensures.vector in
    of_node c.args.world.now c.args.whole.now.claim.node c.has_node.result c.vector.result.now (λ v. whole_text v c.args.whole.now)
    (grind (arith, c.claim-node.ensures, c.has_node.ensures.test, c.setup.ensures.setup)) c.if-has_node.true there c.push_whole_claimed.ensures
