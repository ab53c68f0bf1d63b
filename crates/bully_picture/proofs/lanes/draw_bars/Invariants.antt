use Rattle.std.proofs.Common.{take}
use Rattle.bully_picture.specs.Bars.{HasBars}
use Rattle.bully_picture.specs.Written.{Gains}
use Rattle.bully_picture.proofs.lanes.draw_bars.Given as goal

abbrev pub invariant-loop-bar : goal.invariant-loop-bar
invariant-loop-bar l = Gains l.initial.paper l.paper (λ text. HasBars text l.shows_rows l.node (take l.bar-index l.bars))
