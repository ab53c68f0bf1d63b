use Rattle.std.proofs.Common.{◌∙◌, sym}
use Rattle.bully_base.proofs.SetupLemmas.{same_setup-by_ne}
use Rattle.bully_workbench.proofs.memory.changes.turned_by.Goals as goal

pub turn-requires : goal.turn-requires
turn-requires g c = record {
  setup = sym c.setup.ensures.setup ∙ same_setup-by_ne c.setup.result.now c.setup-2.result.now c.ne.result c.ne.ensures c.if-ne.false ∙ c.setup-2.ensures.named;
}
