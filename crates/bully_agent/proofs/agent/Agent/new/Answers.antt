-- What a new agent keeps is a part of each world in which its node is Down with the same task.
use Rattle.std.proofs.Common.{sym, subst}
use Rattle.std.specs.Option.{option_copied}
use Rattle.bully_world.specs.World.{first_world}
use Rattle.bully_agent.specs.Agent.{IsAgentOf}
use Rattle.bully_agent.specs.Part.{IsPart}
use Rattle.bully_agent.proofs.PartLemmas.{new_is, new_first, new_part}
use Rattle.bully_agent.proofs.agent.Agent.new.Goals as goal

pub invariant_of-result : goal.invariant_of-result
invariant_of-result c = subst (IsAgentOf c.args.setup.now c.args.node c.args.events) (sym c.in_ok-restored.ensures) (new_is c.args.setup.now c.args.node c.args.events (option_copied c.args.task) (c.number-number.ensures.within.0, c.requires.node) c.requires.task)

pub returns-clause-first : goal.returns-clause-first
returns-clause-first c = λ none. subst (λ m. IsPart c.args.setup.now c.args.node m (first_world c.args.setup.now)) (sym c.in_ok-restored.ensures) (new_first c.args.setup.now c.args.node (option_copied c.args.task) none)

pub returns-clause-part : goal.returns-clause-part
returns-clause-part c = λ w all down. subst (λ m. IsPart c.args.setup.now c.args.node m w) (sym c.in_ok-restored.ensures) (new_part c.args.setup.now c.args.node (option_copied c.args.task) w all down)
