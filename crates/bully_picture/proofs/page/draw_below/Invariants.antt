use Rattle.std.proofs.Common.{length, take}
use Rattle.std.specs.Prelude.{All}
use Rattle.std.specs.Str.Lines.{lines}
use Rattle.bully_picture.specs.Drawn.{below_label}
use Rattle.bully_picture.specs.Title.{Has}
use Rattle.bully_picture.specs.Written.{IsIn}
use Rattle.bully_picture.proofs.page.draw_below.Given as goal

abbrev pub invariant-loop-line : goal.invariant-loop-line
invariant-loop-line l = IsIn l.paper (λ text. All (λ line. Has text (below_label l.letters line)) (take (length l.yielded) (lines l.below)))
