use Rattle.bully_picture.proofs.WrittenLemmas.{writes-then}
use Rattle.bully_picture.proofs.page.push_head.Goals as goal

pub returns : goal.returns
returns c = (
  c.width_of-width.result,
  c.height_of-height.result,
  writes-then (writes-then (writes-then (writes-then c.push_attribute.ensures c.push_attribute-2.ensures) c.push_point.ensures) c.push.ensures) c.push-2.ensures,
)
