use Rattle.bully_trace.proofs.StepToldLemmas.{tells-the-step}
use Rattle.bully_trace.proofs.step_told.Goals as goal

pub returns : goal.returns
returns c = tells-the-step
