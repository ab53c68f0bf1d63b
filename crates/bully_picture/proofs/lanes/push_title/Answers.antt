use Rattle.bully_picture.proofs.WrittenLemmas.{writes-then}
use Rattle.bully_picture.proofs.lanes.push_title.Goals as goal

pub returns : goal.returns
returns c = writes-then (writes-then (writes-then c.push_node.ensures c.push_stand.ensures) c.push_behind_rows.ensures) c.push.ensures
