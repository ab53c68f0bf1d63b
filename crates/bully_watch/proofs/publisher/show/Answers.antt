use Rattle.std.proofs.Common.{drop, sym, subst}
use Rattle.left_right.specs.Sides.{view}
use Rattle.bully_watch.specs.CopyRule.{LeadsToCopy}
use Rattle.bully_watch.proofs.CopyLemmas.{copy_after}
use Rattle.bully_watch.proofs.StepLemmas.{publishes}
use Rattle.bully_watch.proofs.publisher.show.Goals as goal

pub publish_as-writer-requires : goal.publish_as-writer-requires
publish_as-writer-requires g c next is =
    let w = c.args.writer in
    publishes w.desk.place.id (view w.desk.place) (drop w.behind w.log.items) w.desk.shown.value next g.N.NextKnowledge.knowledge c.requires.taken.0 c.requires.shown c.requires.taken.1 is (sym c.requires.all) c.requires.setup

pub returns-clause-shown : goal.returns-clause-shown
returns-clause-shown g c =
    let w = c.args.writer in
    let v = rw c.in-Ok.is at c.publish_as-writer.ensures.values in
    let after = copy_after (view w.desk.place).seen (drop w.behind w.log.items) w.desk.shown.value.world c.publish_as-writer.result.0.desk.shown.value.world c.requires.taken.0 c.requires.shown c.requires.taken.1 v.0 in
    subst (λ l. LeadsToCopy l c.publish_as-writer.result.0.desk.shown.value.world) c.requires.all after.1

pub returns-clause-setup : goal.returns-clause-setup
returns-clause-setup g c =
    let w = c.args.writer in
    let v = rw c.in-Ok.is at c.publish_as-writer.ensures.values in
    (copy_after (view w.desk.place).seen (drop w.behind w.log.items) w.desk.shown.value.world c.publish_as-writer.result.0.desk.shown.value.world c.requires.taken.0 c.requires.shown c.requires.taken.1 v.0).0
