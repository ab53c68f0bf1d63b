use Rattle.bully_film.proofs.BehindLemmas.{leads-behind}
use Rattle.bully_film.proofs.world_told.Goals as goal

pub returns : goal.returns
returns c = leads-behind
