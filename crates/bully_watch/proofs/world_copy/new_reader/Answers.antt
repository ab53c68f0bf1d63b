use Rattle.bully_watch.proofs.StepLemmas.{admits}
use Rattle.bully_watch.proofs.world_copy.new_reader.Goals as goal

pub reader-requires : goal.reader-requires
reader-requires c = admits
