use Rattle.std.proofs.Common.{length, take, subst, sym, arith}
use Rattle.std.proofs.lemmas.Iterator.Splits.{YieldsList-from_lines}
use Rattle.std.proofs.lemmas.Iterator.Consumers.{YieldsList-turn, YieldsList-end}
use Rattle.std.proofs.lemmas.List.{length_push}
use Rattle.std.specs.Str.Lines.{lines}
use Rattle.bully_page.specs.Page.{line_text, lines_text}
use Rattle.bully_picture.specs.Written.{Writes}
use Rattle.bully_picture.proofs.WrittenLemmas.{pieces-all, pieces-more}
use Rattle.bully_page.proofs.page.push_below.Goals as goal

pub loop-line-preserved : goal.loop-line-preserved
loop-line-preserved c =
    let below = c.args.below.now in
    let t = YieldsList-turn (YieldsList-from_lines below cc) c.loop-line.yielded _ c.loop-line.yielded_by _ _ c.in-Some.line c.in-Some.is c.next.ensures.steps in
    subst (λ n. Writes c.args.page.now c.push_line.new.page (lines_text (take n (lines below)))) (sym (length_push c.loop-line.yielded c.in-Some.line))
    (pieces-more line_text (lines below) (length c.loop-line.yielded) c.in-Some.line.now c.args.page.now c.loop-line.page c.push_line.new.page t.0 t.1 c.loop-line.invariant c.push_line.ensures)

pub returns : goal.returns
returns c =
    let below = c.args.below.now in
    let t = YieldsList-end (YieldsList-from_lines below cc) c.loop-line.yielded _ c.loop-line.yielded_by _ _ c.in-None.is c.next.ensures.steps in
    pieces-all line_text (lines below) (length c.loop-line.yielded) c.args.page.now c.loop-line.page (omega (arith, t.1)) c.loop-line.invariant
