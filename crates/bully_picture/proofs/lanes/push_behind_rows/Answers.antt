use Rattle.bully_picture.proofs.WrittenLemmas.{writes-nothing, writes-then}
use Rattle.bully_picture.proofs.lanes.push_behind_rows.Goals as goal

pub returns-then-shows_rows : goal.returns-then-shows_rows
returns-then-shows_rows c = rw c.if-shows_rows.true (writes-then c.push_number.ensures c.push_number-then-shows_rows.ensures)

pub returns-else-shows_rows : goal.returns-else-shows_rows
returns-else-shows_rows c = rw c.if-shows_rows.false (writes-nothing c.args.paper.now)
