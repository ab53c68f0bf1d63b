use Rattle.std.proofs.Common.{arith, refl}
use Rattle.std.proofs.lemmas.Bool.Decides.{nat_tests}
use Rattle.std.proofs.lemmas.Grind.{common_steps}
use Rattle.std.proofs.lemmas.List.Elements.{All-more, All-same}
use Rattle.bully_base.specs.Setup.{IsWeight}
use Rattle.bully_base.proofs.setup.are_within.Goals as goal

pub loop-weight-preserved : goal.loop-weight-preserved
loop-weight-preserved c =
    All-more IsWeight c.args.weights.now c.loop-weight.weight-index 0 c.loop-weight-test.true c.loop-weight.invariant (grind (arith, nat_tests, common_steps), grind (arith, nat_tests, common_steps))

pub returns : goal.returns
returns c = (λ t. All-same IsWeight c.args.weights.now _ (grind (arith, common_steps)) c.loop-weight.invariant, λ all. refl)
