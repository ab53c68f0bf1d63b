use Rattle.bully_run.proofs.CallLemmas.{asks_lem, begins_lem, kept_lem, only_lem, rises_lem, session_lem, starts_lem}
use Rattle.bully_run.proofs.LeaseLemmas.{counts_lem}
use Rattle.bully_run.proofs.forgets_no_promise.Goals as goal

pub returns-clause-kept : goal.returns-clause-kept
returns-clause-kept c = kept_lem

pub returns-clause-only : goal.returns-clause-only
returns-clause-only c = only_lem

pub returns-clause-begins : goal.returns-clause-begins
returns-clause-begins c = begins_lem

pub returns-clause-session : goal.returns-clause-session
returns-clause-session c = session_lem

pub returns-clause-rises : goal.returns-clause-rises
returns-clause-rises c = rises_lem

pub returns-clause-asks : goal.returns-clause-asks
returns-clause-asks c = asks_lem

pub returns-clause-starts : goal.returns-clause-starts
returns-clause-starts c = starts_lem

pub returns-clause-counts : goal.returns-clause-counts
returns-clause-counts c = counts_lem
