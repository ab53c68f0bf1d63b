use Rattle.std.proofs.Common.{◌∙◌, rules, tests}
use Rattle.std.proofs.lemmas.Iterator.{YieldsList-from_slice}
use Rattle.std.proofs.lemmas.Iterator.Search.{all_from_yields_List}
use Rattle.toml.specs.declared.value.Value.{Value}
use Rattle.toml.specs.View.{view}
use Rattle.bully_config.specs.Refusals.{is_integer}
use Rattle.bully_config.proofs.ItemLemmas.{all-of_view}
use Rattle.bully_config.proofs.refusal.are_integers.Goals as goal

pub returns : goal.returns
returns c =
    all_from_yields_List (λ (v : Value). is_integer (view v)) _ _ _ c.all.ensures.ran (YieldsList-from_slice c.args.items.now cc) (λ x b q k. search (rules, tests))
    ∙ all-of_view is_integer c.args.items.now
