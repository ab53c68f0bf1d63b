use Rattle.bully_picture.proofs.WrittenLemmas.{writes-as, writes-then}
use Rattle.bully_picture.proofs.page.push_whole_title.Goals as goal

pub returns : goal.returns
returns c = writes-then (writes-then (writes-as c.title_start.ensures c.push.ensures) c.push_title.ensures) c.push-2.ensures
