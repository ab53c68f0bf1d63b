use Rattle.bully_table.proofs.EvenLaws.{even-balanced, even-planned, even-quota}
use Rattle.bully_table.proofs.equal_weights.Goals as goal

pub returns-clause-balanced : goal.returns-clause-balanced
returns-clause-balanced c = even-balanced

pub returns-clause-quota : goal.returns-clause-quota
returns-clause-quota c = even-quota

pub returns-clause-planned : goal.returns-clause-planned
returns-clause-planned c = even-planned
