use Rattle.bully_paint.proofs.StrokeLemmas.{paints-words}
use Rattle.bully_paint.proofs.words_painted.Goals as goal

pub returns : goal.returns
returns c = paints-words
