use Rattle.bully_agent.proofs.FrameLemmas.{group_goes_on_lem}
use Rattle.bully_agent.proofs.group_goes_on.Goals as goal

pub returns : goal.returns
returns c = group_goes_on_lem
