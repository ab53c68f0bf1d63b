use Rattle.bully_watch.proofs.StepLemmas.{looks as turns}
use Rattle.bully_watch.proofs.observer.Observer.read_once.Goals as goal

pub enter_as-requires : goal.enter_as-requires
enter_as-requires g c = turns _ _
