use Rattle.std.proofs.Common.{take}
use Rattle.bully_picture.specs.Drawn.{HasSaid, scenes_shown}
use Rattle.bully_picture.specs.Written.{IsIn}
use Rattle.bully_picture.proofs.marks.draw_texts.Given as goal

abbrev pub invariant-loop-scene : goal.invariant-loop-scene
invariant-loop-scene l = IsIn l.texts (λ text. HasSaid text l.finished.verdict (scenes_shown l.claims l.finished.verdict (take l.scene-index l.scene-items)))
