use Rattle.std.specs.Str.Lines.{lines}
use Rattle.bully_picture.proofs.WrittenLemmas.{extends-then, extends-written, writes-then, written-in, written-whole}
use Rattle.bully_page.proofs.PageLemmas.{ends-written, lines-has}
use Rattle.bully_page.proofs.page.behind_of.Goals as goal

pub returns-clause-ends : goal.returns-clause-ends
returns-clause-ends c = ends-written c.push-6.ensures

pub returns-clause-below : goal.returns-clause-below
returns-clause-below c = λ good.
    lines-has c.push-6.new.self.text (lines c.args.below.now) (written-in c.push_below.ensures
    (extends-then (extends-written c.push-2.ensures) (extends-then (extends-written c.push-3.ensures) (extends-then (extends-written c.push_rows.ensures)
    (extends-then (extends-written c.push-4.ensures) (extends-then (extends-written c.push-5.ensures) (extends-written c.push-6.ensures)))))) good)

pub returns-clause-rows : goal.returns-clause-rows
returns-clause-rows c =
    written-in (writes-then (writes-then c.push-3.ensures c.push_rows.ensures) c.push-4.ensures) (extends-then (extends-written c.push-5.ensures) (extends-written c.push-6.ensures))

pub returns-clause-text : goal.returns-clause-text
returns-clause-text c =
    written-whole c.new-behind.ensures (writes-then (writes-then (writes-then (writes-then (writes-then c.push.ensures c.push_below.ensures) c.push-2.ensures)
    (writes-then (writes-then c.push-3.ensures c.push_rows.ensures) c.push-4.ensures)) c.push-5.ensures) c.push-6.ensures)
