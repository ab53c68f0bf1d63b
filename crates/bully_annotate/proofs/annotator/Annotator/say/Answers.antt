use Rattle.bully_annotate.proofs.SaysLemmas.{claim-said, detailed-said, event-said, whole-said}
use Rattle.bully_annotate.proofs.annotator.Annotator.say.Goals as goal

pub returns-in-Event-clause-said : goal.returns-in-Event-clause-said
returns-in-Event-clause-said c = λ number more after w lawful.
    event-said c.args.self.now c.say_event.new.self number c.in-Event.event c.args.row.now more after w _ _ c.say_event.result c.in-Event.is c.say_event.ensures.steps lawful

pub returns-in-Detailed-clause-said : goal.returns-in-Detailed-clause-said
returns-in-Detailed-clause-said c = λ number more after w lawful.
    detailed-said c.args.self.now c.say_event-in-Detailed.new.self number c.in-Detailed.detailed c.args.row.now more after w _ _ c.say_event-in-Detailed.result c.in-Detailed.is (rw c.event.ensures at c.say_event-in-Detailed.ensures.steps) lawful

pub returns-in-Claim-clause-said : goal.returns-in-Claim-clause-said
returns-in-Claim-clause-said c = λ number more after w lawful.
    claim-said c.args.self.now number c.in-Claim.claim c.args.row.now more after w _ _ c.show.result c.in-Claim.is c.show.ensures.shows lawful

pub returns-in-Whole-clause-said : goal.returns-in-Whole-clause-said
returns-in-Whole-clause-said c = λ number more after w lawful.
    whole-said c.args.self.now number c.in-Whole.whole c.args.row.now more after w _ _ c.show-in-Whole.result c.in-Whole.is (rw c.claim.ensures at c.show-in-Whole.ensures.shows) lawful
