use Rattle.std.proofs.Common.{subst, arith}
use Rattle.bully_film.specs.Lane.{row_before}
use Rattle.bully_film.specs.Scene.{lane_of}
use Rattle.bully_picture.specs.Drawn.{HasLanes}
use Rattle.bully_picture.specs.Bars.{HasLaneBars, shows_rows}
use Rattle.bully_picture.proofs.BarLemmas.{lanes-stand}
use Rattle.bully_picture.proofs.DrawnLemmas.{lanes-arrows}
use Rattle.bully_picture.proofs.page.picture_on.Goals as goal

pub returns-in-Ok-clause-calls : goal.returns-in-Ok-clause-calls
returns-in-Ok-clause-calls c = λ window trace is good i low high.
    lanes-arrows c.picture_with.result.text (row_before c.args.finished.now.scenes.items) 1 (λ j. lane_of trace.setup is.before j is.shown) c.in-Ok.lanes.items
    (c.in-Ok.ensures.lanes window trace is) (subst (HasLanes c.picture_with.result.text) c.as_slice.ensures.value (c.picture_with.ensures.lanes good))
    i (omega (arith, low)) (omega (arith, high, c.in-Ok.ensures.count))

pub returns-in-Ok-clause-bars : goal.returns-in-Ok-clause-bars
returns-in-Ok-clause-bars c = λ window trace is good i low high.
    lanes-stand c.picture_with.result.text (shows_rows c.args.finished.now.scenes.items) (row_before c.args.finished.now.scenes.items) 1 (λ j. lane_of trace.setup is.before j is.shown) c.in-Ok.lanes.items
    (c.in-Ok.ensures.lanes window trace is)
    (subst (HasLaneBars c.picture_with.result.text (shows_rows c.args.finished.now.scenes.items)) c.as_slice.ensures.value (c.picture_with.ensures.bars good))
    i (omega (arith, low)) (omega (arith, high, c.in-Ok.ensures.count))
