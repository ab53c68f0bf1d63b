use Rattle.toml.proofs.Views.{table_get}
use Rattle.bully_config.specs.Document.{value_at}
use Rattle.bully_config.proofs.lookup.value_at.Goals as goal

pub returns : goal.returns
unfolding value_at
returns c = rw c.word.ensures at (table_get c.get.result c.word.result.now c.args.table.now.entries c.get.ensures.value)
