use Rattle.bully_picture.proofs.WrittenLemmas.{writes-nothing}
use Rattle.bully_page.proofs.changes.push_stop.Goals as goal

pub returns-then-scene : goal.returns-then-scene
returns-then-scene c = rw c.if-scene.true c.push_node.ensures

pub returns-else-scene : goal.returns-else-scene
returns-else-scene c = rw c.if-scene.false (writes-nothing c.args.page.now)
