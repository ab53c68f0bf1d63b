use Rattle.bully_c.proofs.StepLemmas.{at-open}
use Rattle.bully_c.proofs.requests.bully_c_agent_serve.Goals as goal

pub returns-clause-open : goal.returns-clause-open
returns-clause-open c = at-open _ _ _ c.in-Some.held.value c.deref_mut.result.now c.served-status.new.held c.served-status.result c.in-Some.ensures.taken c.deref_mut.ensures.value c.put.ensures c.served-status.ensures
