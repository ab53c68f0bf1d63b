use Rattle.std.proofs.Common.{take}
use Rattle.bully_picture.specs.Drawn.{HasHoldings}
use Rattle.bully_picture.specs.Written.{Gains}
use Rattle.bully_picture.proofs.arrows.draw_calls.Given as goal

abbrev pub invariant-loop-place : goal.invariant-loop-place
invariant-loop-place l = Gains l.initial.arrows l.arrows (λ text. HasHoldings text l.node (take l.place l.holdings))
