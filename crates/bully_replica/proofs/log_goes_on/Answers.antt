use Rattle.bully_replica.proofs.LogLemmas.{log_goes_on_lem}
use Rattle.bully_replica.proofs.log_goes_on.Goals as goal

pub returns : goal.returns
returns c = log_goes_on_lem
