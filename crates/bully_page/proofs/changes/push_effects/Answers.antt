use Rattle.bully_picture.proofs.WrittenLemmas.{writes-nothing, writes-then}
use Rattle.bully_page.proofs.changes.push_effects.Goals as goal

pub returns-then-not-decides : goal.returns-then-not-decides
returns-then-not-decides c = rw c.if-not-decides.true (writes-then c.push_stop.ensures c.push_getting.ensures)

pub returns-else-not-decides : goal.returns-else-not-decides
returns-else-not-decides c = rw c.if-not-decides.false (writes-nothing c.args.page.now)
