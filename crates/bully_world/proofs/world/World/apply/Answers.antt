-- There is no cause.
use Rattle.std.proofs.Common.{sym, rules, ◌∙◌}
use Rattle.bully_world.proofs.WorldLemmas.{none_from}
use Rattle.bully_world.proofs.world.World.apply.Goals as goal

pub apply_allowed-requires : goal.apply_allowed-requires
apply_allowed-requires c = sym c.cause.ensures ∙ none_from c.cause.result c.in_default.not-Some

pub returns-clause-exact : goal.returns-clause-exact
returns-clause-exact c = search rules

pub returns-clause-why : goal.returns-clause-why
returns-clause-why c = search rules

pub returns-clause-unchanged : goal.returns-clause-unchanged
returns-clause-unchanged c = search rules
