use Rattle.bully_work.proofs.AskedLemmas.{eager_appends_lem, eager_ends_lem, eager_idle_lem, eager_now_lem, eager_owner_lem, eager_still_lem}
use Rattle.bully_work.proofs.eager_apart.Goals as goal

pub returns-clause-owner : goal.returns-clause-owner
returns-clause-owner c = eager_owner_lem

pub returns-clause-still : goal.returns-clause-still
returns-clause-still c = eager_still_lem

pub returns-clause-now : goal.returns-clause-now
returns-clause-now c = eager_now_lem

pub returns-clause-appends : goal.returns-clause-appends
returns-clause-appends c = eager_appends_lem

pub returns-clause-ends : goal.returns-clause-ends
returns-clause-ends c = eager_ends_lem

pub returns-clause-idle : goal.returns-clause-idle
returns-clause-idle c = eager_idle_lem
