use Rattle.bully_trace.proofs.UpgradeLemmas.{verdict-stays}
use Rattle.bully_trace.proofs.same_verdict.Goals as goal

pub returns : goal.returns
returns c = verdict-stays
