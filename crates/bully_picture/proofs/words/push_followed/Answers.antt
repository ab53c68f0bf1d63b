use Rattle.bully_picture.proofs.WrittenLemmas.{writes-then}
use Rattle.bully_picture.proofs.words.push_followed.Goals as goal

pub returns : goal.returns
returns c = writes-then c.push.ensures c.push_behind.ensures
