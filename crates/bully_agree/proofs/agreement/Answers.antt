use Rattle.bully_agree.proofs.Law.{agreement_lem}
use Rattle.bully_agree.proofs.agreement.Goals as goal

pub returns : goal.returns
returns c = agreement_lem
