use Rattle.bully_watch.proofs.StepLemmas.{tells, learns}
use Rattle.bully_watch.proofs.publisher.tell.Goals as goal

pub tell-requires : goal.tell-requires
tell-requires c = tells _ _

pub learn-requires-clause-rule : goal.learn-requires-clause-rule
learn-requires-clause-rule c = learns _ _ _ _
