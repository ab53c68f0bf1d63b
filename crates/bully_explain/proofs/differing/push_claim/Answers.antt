use Rattle.std.proofs.Common.{arith}
use Rattle.bully_explain.specs.Differing.{claimed_text}
use Rattle.bully_explain.proofs.DifferingLemmas.{of_node}
use Rattle.bully_explain.proofs.differing.push_claim.Goals as goal

pub returns-then-has_node : goal.returns-then-has_node
returns-then-has_node c =
    of_node c.args.world.now c.args.claim.node c.has_node.result c.vector.result.now (λ v. claimed_text v c.args.claim) (grind (arith, c.has_node.ensures.test, c.setup.ensures.setup)) c.if-has_node.true
    c.vector.ensures.vector c.push_claimed.ensures
