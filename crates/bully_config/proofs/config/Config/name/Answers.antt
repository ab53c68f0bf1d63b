use Rattle.std.proofs.Common.{◌∙◌, arith}
use Rattle.bully_config.proofs.NameLemmas.{name_of_node}
use Rattle.bully_config.proofs.config.Config.name.Goals as goal

pub returns : goal.returns
returns c =
    rw (← c.self.view_is) (c.as_str.ensures.value ∙ name_of_node c.self.inside.names.keys c.index.result.now c.from-index.result c.args.node c.index.ensures
    (grind (arith, c.from-index.ensures, c.number.ensures)))
