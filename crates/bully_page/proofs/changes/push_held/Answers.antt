use Rattle.bully_picture.proofs.WrittenLemmas.{writes-as, writes-then}
use Rattle.bully_page.proofs.changes.push_held.Goals as goal

pub returns : goal.returns
returns c =
    writes-then (writes-then (writes-then (writes-as c.kind_text.ensures c.push.ensures) c.push_node.ensures) c.push_phase.ensures) (writes-as c.orphan_text.ensures c.push-2.ensures)
