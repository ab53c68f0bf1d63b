use Rattle.bully_agent.proofs.FrameLemmas.{keeps_others}
use Rattle.bully_agent.proofs.others_stay.Goals as goal

pub returns : goal.returns
returns c = keeps_others
