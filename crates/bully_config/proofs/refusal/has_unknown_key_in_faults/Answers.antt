use Rattle.std.proofs.Common.{◌∙◌, rules, tests}
use Rattle.std.proofs.lemmas.Iterator.{YieldsList-from_slice}
use Rattle.std.proofs.lemmas.Iterator.Search.{any_from_yields_List}
use Rattle.toml.specs.declared.value.Value.{Value}
use Rattle.toml.specs.View.{view}
use Rattle.bully_config.specs.Refusals.{fault_has_unlisted}
use Rattle.bully_config.proofs.ItemLemmas.{any-of_view}
use Rattle.bully_config.proofs.refusal.has_unknown_key_in_faults.Goals as goal

pub returns : goal.returns
returns c =
    any_from_yields_List (λ (v : Value). fault_has_unlisted (view v)) _ _ _ c.any.ensures.ran (YieldsList-from_slice c.args.faults.now cc) (λ x b q k. search (rules, tests))
    ∙ any-of_view fault_has_unlisted c.args.faults.now
