use Rattle.bully_play.proofs.ToldLemmas.{lawful-told}
use Rattle.bully_play.proofs.lawful_told.Goals as goal

pub returns : goal.returns
returns c = lawful-told
