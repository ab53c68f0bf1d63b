use Rattle.bully_member.proofs.StopLemmas.{moves_lem, stops_lem}
use Rattle.bully_member.proofs.stops_no_more.Goals as goal

pub returns-clause-reason : goal.returns-clause-reason
returns-clause-reason c = stops_lem

pub returns-clause-moves : goal.returns-clause-moves
returns-clause-moves c = moves_lem
