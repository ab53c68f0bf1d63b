use Rattle.bully_annotate.proofs.ShownLemmas.{tells-the-vector}
use Rattle.bully_annotate.proofs.vector_told.Goals as goal

pub returns : goal.returns
returns c = tells-the-vector
