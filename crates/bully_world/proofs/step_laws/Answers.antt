use Rattle.bully_world.proofs.StepOfLemmas.{step_is_computed, lead_is_computed, step_is_one, lawful_is_one}
use Rattle.bully_world.proofs.step_laws.Goals as goal

pub returns-clause-step : goal.returns-clause-step
returns-clause-step c = step_is_computed

pub returns-clause-lead : goal.returns-clause-lead
returns-clause-lead c = lead_is_computed

pub returns-clause-one_step : goal.returns-clause-one_step
returns-clause-one_step c = step_is_one

pub returns-clause-one_world : goal.returns-clause-one_world
returns-clause-one_world c = lawful_is_one
