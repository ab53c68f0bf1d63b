use Rattle.std.proofs.Common.{◌∙◌, rules, tests}
use Rattle.std.specs.Str.{bytes_eq}
use Rattle.std.proofs.lemmas.Iterator.{YieldsList-from_slice}
use Rattle.std.proofs.lemmas.Iterator.Search.{any_from_yields_List}
use Rattle.toml.specs.declared.value.Value.{Value}
use Rattle.toml.specs.View.{view}
use Rattle.bully_config.specs.Document.{text_of}
use Rattle.bully_config.proofs.ItemLemmas.{any-of_names}
use Rattle.bully_config.proofs.refusal.has_name.Goals as goal

pub returns : goal.returns
returns c =
    any_from_yields_List (λ (v : Value). bytes_eq c.args.name.now (text_of (view v))) _ _ _ c.any.ensures.ran (YieldsList-from_slice c.args.names.now cc) (λ x b q k. search (rules, tests))
    ∙ any-of_names (bytes_eq c.args.name.now) c.args.names.now
