use Rattle.bully_picture.proofs.WrittenLemmas.{writes-then}
use Rattle.bully_page.proofs.page.push_line.Goals as goal

pub returns : goal.returns
returns c = writes-then (writes-then c.push.ensures c.push_escaped.ensures.escaped) c.push-2.ensures
