use Rattle.std.proofs.Common.{length, take, subst, sym, arith}
use Rattle.std.proofs.lemmas.Iterator.Splits.{YieldsList-from_lines}
use Rattle.std.proofs.lemmas.Iterator.Consumers.{YieldsList-turn, YieldsList-end}
use Rattle.std.proofs.lemmas.List.{length_push}
use Rattle.std.specs.Prelude.{All}
use Rattle.std.specs.Str.Lines.{lines}
use Rattle.bully_picture.specs.Drawn.{below_label}
use Rattle.bully_picture.specs.Title.{Has}
use Rattle.bully_picture.specs.Written.{IsIn}
use Rattle.bully_picture.proofs.DrawnLemmas.{below-all, below-line}
use Rattle.bully_picture.proofs.page.draw_below.Goals as goal

pub loop-line-preserved : goal.loop-line-preserved
loop-line-preserved c =
    let below = c.args.below.now in
    let letters = c.letters_below-letters.result in
    let t = YieldsList-turn (YieldsList-from_lines below cc) c.loop-line.yielded _ c.loop-line.yielded_by _ _ c.in-Some.line c.in-Some.is c.next.ensures.steps in
    subst (λ n. IsIn c.draw_line_below.new.paper (λ text. All (λ line. Has text (below_label letters line)) (take n (lines below)))) (sym (length_push c.loop-line.yielded c.in-Some.line))
    (below-line letters below c.in-Some.line.now (length c.loop-line.yielded) c.loop-line.paper c.draw_line_below.new.paper t.0 t.1 c.loop-line.invariant c.draw_line_below.ensures)

pub returns : goal.returns
returns c =
    let below = c.args.below.now in
    let t = YieldsList-end (YieldsList-from_lines below cc) c.loop-line.yielded _ c.loop-line.yielded_by _ _ c.in-None.is c.next.ensures.steps in
    below-all c.letters_below-letters.result below (length c.loop-line.yielded) c.loop-line.paper (omega (arith, t.1)) c.loop-line.invariant
