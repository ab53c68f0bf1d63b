use Rattle.bully_watch.proofs.StepLemmas.{glance_shows}
use Rattle.bully_watch.proofs.observer.Observer.glance.Goals as goal

pub returns-in-Some-Some-clause-glance : goal.returns-in-Some-Some-clause-glance
returns-in-Some-Some-clause-glance c =
    let seen = rw c.in-Some-Some.field-0-is at c.in-Some-Some.ensures.seen in
    glance_shows c.args.self.now.publisher c.read.new.self.entries c.args.node c.in-Some-Some.glance (seen.0, seen.1, seen.2, seen.3.1)
