use Rattle.std.specs.Prelude.{option_map, slice_get}
use Rattle.bully_picture.specs.Drawn.{scenes_shown}
use Rattle.bully_picture.specs.Bars.{shows_rows}
use Rattle.bully_picture.proofs.BarLemmas.{bars-copied}
use Rattle.bully_picture.proofs.DrawnLemmas.{below-copied, lanes-copied, nodes-copied}
use Rattle.bully_picture.proofs.ShownLemmas.{rows-copied, said-copied}
use Rattle.bully_picture.proofs.WrittenLemmas.{begins-written, copied-still, document, extends-then, extends-written, writes-then}
use Rattle.bully_picture.proofs.page.picture_with.Goals as goal

pub returns-clause-document : goal.returns-clause-document
returns-clause-document c =
    document c.new-picture.ensures c.push.ensures (extends-then (extends-written c.push_head.ensures.2) (extends-then (extends-written c.push_title_line.ensures) c.push_parts.ensures.extends)) c.push-2.ensures

pub returns-clause-head : goal.returns-clause-head
returns-clause-head c = λ good. (
  c.push_head.ensures.0,
  c.push_head.ensures.1,
  begins-written c.new-picture.ensures (writes-then (writes-then c.push.ensures c.push_head.ensures.2) c.push_title_line.ensures)
      (extends-then c.push_parts.ensures.extends (extends-written c.push-2.ensures)) good,
)

pub returns-clause-rows : goal.returns-clause-rows
returns-clause-rows c = λ good.
    rows-copied c.push-2.new.self.text c.draw-parts.result.numbers c.args.finished.now.verdict (scenes_shown c.args.claims c.args.finished.now.verdict c.args.finished.now.scenes.items)
    (copied-still c.draw-parts.result.numbers c.push_parts.ensures.numbers (extends-written c.push-2.ensures) good) c.draw-parts.ensures.rows

pub returns-clause-says : goal.returns-clause-says
returns-clause-says c = λ good.
    said-copied c.push-2.new.self.text c.draw-parts.result.texts c.args.finished.now.verdict (scenes_shown c.args.claims c.args.finished.now.verdict c.args.finished.now.scenes.items)
    (copied-still c.draw-parts.result.texts c.push_parts.ensures.texts (extends-written c.push-2.ensures) good) c.draw-parts.ensures.says

pub returns-clause-nodes : goal.returns-clause-nodes
returns-clause-nodes c = λ good.
    nodes-copied c.push-2.new.self.text c.draw-parts.result.names c.args.finished.now.setup.nodes (λ i. option_map (λ s. s.now) (slice_get c.args.names.now i))
    (copied-still c.draw-parts.result.names c.push_parts.ensures.names (extends-written c.push-2.ensures) good) c.draw-parts.ensures.nodes

pub returns-clause-lanes : goal.returns-clause-lanes
returns-clause-lanes c = λ good.
    lanes-copied c.push-2.new.self.text c.draw-parts.result.arrows c.args.lanes.now
    (copied-still c.draw-parts.result.arrows c.push_parts.ensures.arrows (extends-written c.push-2.ensures) good) c.draw-parts.ensures.lanes

pub returns-clause-bars : goal.returns-clause-bars
returns-clause-bars c = λ good.
    bars-copied c.push-2.new.self.text c.draw-parts.result.bars (shows_rows c.args.finished.now.scenes.items) c.args.lanes.now
    (copied-still c.draw-parts.result.bars c.push_parts.ensures.bars (extends-written c.push-2.ensures) good) c.draw-parts.ensures.bars

pub returns-clause-below : goal.returns-clause-below
returns-clause-below c = λ good.
    below-copied c.push-2.new.self.text c.draw-parts.result.below c.args.below.now
    (copied-still c.draw-parts.result.below c.push_parts.ensures.below (extends-written c.push-2.ensures) good) c.draw-parts.ensures.below
