-- An even setup is told by its numbers alone.
use Rattle.std.proofs.Common.{◌≡◌, [], true, arith}
use Rattle.bully_base.specs.Setup.{is_even}
use Rattle.bully_agree.proofs.KeptLemmas.{kept-even}
use Rattle.bully_agree.proofs.views.kept_setup.KeptSetup.of.Goals as goal

pub returns-then-is_even : goal.returns-then-is_even
returns-then-is_even c =
    let even : is_even c.args.setup.now ≡ true = grind (arith, c.is_even.ensures, c.if-is_even.true) in
    let kept = kept-even c.args.setup.now [] c.weights-weights.ensures.within even in
    grind (arith, kept, c.limits-limits.ensures, c.keeps-keeps.ensures)
