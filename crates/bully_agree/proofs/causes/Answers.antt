use Rattle.bully_agree.proofs.Law.{causes_lem}
use Rattle.bully_agree.proofs.causes.Goals as goal

pub returns : goal.returns
returns c = causes_lem
