use Rattle.bully_agent.proofs.StayLemmas.{runs_stay_lem}
use Rattle.bully_agent.proofs.runs_stay.Goals as goal

pub returns : goal.returns
returns c = runs_stay_lem
