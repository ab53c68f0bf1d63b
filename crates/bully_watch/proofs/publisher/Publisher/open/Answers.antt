use Rattle.std.proofs.Common.{[], drop, sym, ap, ◌∙◌, subst}
use Rattle.left_right.specs.Sides.{view}
use Rattle.bully_world.specs.State.{world_of}
use Rattle.bully_watch.specs.CopyRule.{LeadsToCopy}
use Rattle.bully_watch.specs.declared.world_copy.WorldCopy.{WorldCopy}
use Rattle.bully_watch.proofs.PublisherLemmas.{opened_keeps, taken_nothing}
use Rattle.bully_watch.proofs.StepLemmas.{copy_opened, rule_opened}
use Rattle.bully_watch.proofs.publisher.Publisher.open.Goals as goal

pub new-requires-3-clause-rule : goal.new-requires-3-clause-rule
new-requires-3-clause-rule g c = rule_opened c.args.setup c.in-Ok.one c.in-Ok.ensures.state c.in-Ok.ensures.first

pub show-writer-requires-clause-taken : goal.show-writer-requires-clause-taken
show-writer-requires-clause-taken g c =
    let w = c.in-Ok-new-2.writer in
    let new = c.in-Ok-new-2.ensures in
    let state = ap (λ (p : WorldCopy). p.world) new.0 ∙ c.in-Ok.ensures.state in
    let first = ap (λ (p : WorldCopy). world_of p.world) new.0 ∙ c.in-Ok.ensures.first in
    taken_nothing (view w.desk.place) w.desk.shown.value.world (drop w.behind w.log.items) new.2 (copy_opened c.args.setup w.desk.shown.value.world state first) new.1

pub invariant_of-publisher : goal.invariant_of-publisher
invariant_of-publisher g c =
    let kept = c.enroll.ensures.kept in
    let shown = c.show-writer.ensures in
    let w = c.enroll.new.writer in
    opened_keeps c.new-name.result.name c.in-Ok-new-2.writer.desk.shown.value.world.setup (view w.desk.place) w.desk.shown.value.world (drop w.behind w.log.items)
    (kept.3 ∙ shown.knowledge) (ap (λ s. s.value.world.setup) kept.0 ∙ shown.setup) (subst (λ s. LeadsToCopy [] s.value.world) (sym kept.0) shown.shown) ((λ i. drop (kept.2 i) ((kept.1 i).items)) ∙ shown.pending)
