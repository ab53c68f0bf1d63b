use Rattle.std.proofs.Common.{ℕ, rules, tests, ◌==◌}
use Rattle.std.proofs.lemmas.Iterator.{YieldsList-from_slice}
use Rattle.std.proofs.lemmas.Iterator.Search.{all_from_yields_List}
use Rattle.bully_base.proofs.setup.are_ones.Goals as goal

pub returns : goal.returns
returns c = all_from_yields_List (λ (w : ℕ). w == 1) _ _ _ c.all.ensures.ran (YieldsList-from_slice c.args.weights.now cc) (λ x b q k. search (rules, tests))
