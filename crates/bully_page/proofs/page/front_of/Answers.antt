use Rattle.bully_picture.proofs.WrittenLemmas.{begins-written, extends-then, extends-written, writes-then, written-in, written-whole}
use Rattle.bully_page.proofs.page.front_of.Goals as goal

pub returns-clause-begins : goal.returns-clause-begins
returns-clause-begins c =
    begins-written c.new-front.ensures c.push.ensures
    (extends-then (extends-written c.push-2.ensures) (extends-then (extends-written c.push_titled.ensures)
    (extends-then (extends-written c.push-3.ensures) (extends-then (extends-written c.push_titled-2.ensures) (extends-written c.push-4.ensures)))))

pub returns-clause-title : goal.returns-clause-title
returns-clause-title c =
    written-in c.push_titled.ensures (extends-then (extends-written c.push-3.ensures) (extends-then (extends-written c.push_titled-2.ensures) (extends-written c.push-4.ensures)))

pub returns-clause-heading : goal.returns-clause-heading
returns-clause-heading c = written-in c.push_titled-2.ensures (extends-written c.push-4.ensures)

pub returns-clause-text : goal.returns-clause-text
returns-clause-text c =
    written-whole c.new-front.ensures (writes-then (writes-then (writes-then (writes-then (writes-then c.push.ensures c.push-2.ensures) c.push_titled.ensures) c.push-3.ensures)
    c.push_titled-2.ensures) c.push-4.ensures)
