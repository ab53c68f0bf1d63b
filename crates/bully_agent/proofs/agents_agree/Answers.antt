use Rattle.bully_agent.proofs.AgreeLemmas.{parts_agree}
use Rattle.bully_agent.proofs.agents_agree.Goals as goal

pub returns : goal.returns
returns c = parts_agree
