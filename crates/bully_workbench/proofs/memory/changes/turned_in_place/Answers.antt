use Rattle.std.proofs.Common.{◌∙◌, sym}
use Rattle.bully_base.proofs.SetupLemmas.{same_setup-by_ne}
use Rattle.bully_workbench.proofs.memory.changes.turned_in_place.Goals as goal

pub serve_or_turn-turn-requires : goal.serve_or_turn-turn-requires
serve_or_turn-turn-requires g c = record {
  setup = sym c.setup.ensures.setup ∙ same_setup-by_ne c.setup.result.now c.setup-2.result.now c.ne.result c.ne.ensures c.if-ne.false ∙ c.setup-2.ensures.named;
}

pub turn_in_place-turn-requires : goal.turn_in_place-turn-requires
turn_in_place-turn-requires g c = record {
  setup = sym c.setup.ensures.setup ∙ same_setup-by_ne c.setup.result.now c.setup-2.result.now c.ne.result c.ne.ensures c.if-ne.false ∙ c.setup-2.ensures.named;
}
