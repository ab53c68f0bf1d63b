use Rattle.bully_picture.proofs.WrittenLemmas.{writes-nothing, writes-then}
use Rattle.bully_page.proofs.changes.push_getting.Goals as goal

pub returns-then-scene : goal.returns-then-scene
returns-then-scene c = rw c.if-scene.true (writes-then (writes-then c.push_node.ensures c.push_table.ensures) c.push.ensures)

pub returns-else-scene : goal.returns-else-scene
returns-else-scene c = rw c.if-scene.false (writes-nothing c.args.page.now)
