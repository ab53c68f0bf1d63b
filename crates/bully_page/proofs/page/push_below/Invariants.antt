use Rattle.std.proofs.Common.{length, take}
use Rattle.std.specs.Str.Lines.{lines}
use Rattle.bully_page.specs.Page.{lines_text}
use Rattle.bully_picture.specs.Written.{Writes}
use Rattle.bully_page.proofs.page.push_below.Given as goal

abbrev pub invariant-loop-line : goal.invariant-loop-line
invariant-loop-line l = Writes l.initial.page l.page (lines_text (take (length l.yielded) (lines l.below)))
