use Rattle.bully_picture.proofs.WrittenLemmas.{copied-in, extends-same, extends-then, extends-written}
use Rattle.bully_picture.proofs.page.push_parts.Goals as goal

pub returns-clause-bars : goal.returns-clause-bars
returns-clause-bars c =
    copied-in c.args.parts.now.bars c.push_paper-2.ensures.copied c.push_paper-2.ensures.whole
    (extends-then (extends-written c.push_paper-3.ensures.copied) (extends-then (extends-written c.push_paper-4.ensures.copied) (extends-then (extends-written c.push_paper-5.ensures.copied) (extends-then (extends-written c.push_paper-6.ensures.copied) (extends-then (extends-written c.push_paper-7.ensures.copied) (extends-written c.push_paper-8.ensures.copied))))))

pub returns-clause-arrows : goal.returns-clause-arrows
returns-clause-arrows c =
    copied-in c.args.parts.now.arrows c.push_paper-3.ensures.copied c.push_paper-3.ensures.whole
    (extends-then (extends-written c.push_paper-4.ensures.copied) (extends-then (extends-written c.push_paper-5.ensures.copied) (extends-then (extends-written c.push_paper-6.ensures.copied) (extends-then (extends-written c.push_paper-7.ensures.copied) (extends-written c.push_paper-8.ensures.copied)))))

pub returns-clause-numbers : goal.returns-clause-numbers
returns-clause-numbers c =
    copied-in c.args.parts.now.numbers c.push_paper-4.ensures.copied c.push_paper-4.ensures.whole
    (extends-then (extends-written c.push_paper-5.ensures.copied) (extends-then (extends-written c.push_paper-6.ensures.copied) (extends-then (extends-written c.push_paper-7.ensures.copied) (extends-written c.push_paper-8.ensures.copied))))

pub returns-clause-texts : goal.returns-clause-texts
returns-clause-texts c =
    copied-in c.args.parts.now.texts c.push_paper-5.ensures.copied c.push_paper-5.ensures.whole
    (extends-then (extends-written c.push_paper-6.ensures.copied) (extends-then (extends-written c.push_paper-7.ensures.copied) (extends-written c.push_paper-8.ensures.copied)))

pub returns-clause-names : goal.returns-clause-names
returns-clause-names c =
    copied-in c.args.parts.now.names c.push_paper-6.ensures.copied c.push_paper-6.ensures.whole
    (extends-then (extends-written c.push_paper-7.ensures.copied) (extends-written c.push_paper-8.ensures.copied))

pub returns-clause-below : goal.returns-clause-below
returns-clause-below c =
    copied-in c.args.parts.now.below c.push_paper-8.ensures.copied c.push_paper-8.ensures.whole
    (extends-same c.push_paper-8.new.self)
