use Rattle.std.proofs.Common.{take}
use Rattle.bully_picture.specs.Bars.{HasLaneBars}
use Rattle.bully_picture.specs.Drawn.{HasLanes}
use Rattle.bully_picture.specs.Written.{IsIn}
use Rattle.bully_picture.proofs.page.draw_lanes.Given as goal

abbrev pub invariant-loop-lane : goal.invariant-loop-lane
invariant-loop-lane l = record {
  bars : IsIn l.bars (λ text. HasLaneBars text l.shows_rows (take l.lane-index l.lanes));
  arrows : IsIn l.arrows (λ text. HasLanes text (take l.lane-index l.lanes));
}
