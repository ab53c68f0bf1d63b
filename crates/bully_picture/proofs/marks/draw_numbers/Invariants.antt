use Rattle.std.proofs.Common.{take}
use Rattle.bully_picture.specs.Drawn.{AreNumbers, scenes_shown}
use Rattle.bully_picture.specs.Written.{IsIn}
use Rattle.bully_picture.proofs.marks.draw_numbers.Given as goal

abbrev pub invariant-loop-scene : goal.invariant-loop-scene
invariant-loop-scene l = IsIn l.numbers (AreNumbers l.finished.verdict (scenes_shown l.claims l.finished.verdict (take l.scene-index l.scene-items)))
