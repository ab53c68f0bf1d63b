use Rattle.std.proofs.Common.{rules, ◌≡◌, ◌++◌, drop, take, sym, ap, ◌∙◌, subst, take-append-drop}
use Rattle.left_right.specs.Sides.{view}
use Rattle.bully_watch.specs.History.{IsHistory}
use Rattle.bully_watch.specs.CopyRule.{IsPublisher}
use Rattle.bully_watch.specs.declared.knowledge.Knowledge.{Knowledge}
use Rattle.bully_watch.specs.declared.knowledge.PublisherId.{PublisherId}
use Rattle.bully_watch.proofs.PublisherLemmas.{taken_more}
use Rattle.bully_watch.proofs.publisher.Publisher.published.Goals as goal

pub invariant_of-publisher : goal.invariant_of-publisher
invariant_of-publisher g c =
    let now = c.self.inside.writer.desk in
    let after = c.take_in-writer.result.0 in
    let pending = drop after.behind after.log.items in
    let n = c.take_in-writer.result.1 in
    let entries = c.args.entries.now in
    let world = c.requires.history.0 in
    let history = subst (λ (p : PublisherId). IsHistory p.setup entries world) (sym (ap (λ v. v.publisher) c.self.view_is)) c.requires.history.1 in
    let same = c.take_in-writer.ensures.desk in
    let known : view now.place ≡ view after.desk.place = ap (λ d. view d.place) (sym same) in
    let here : (view now.place).seen ++ pending ≡ take n entries = ap (λ (k : Knowledge). k.seen ++ pending) known ∙ c.take_in-writer.ensures.here in
    subst (λ d. IsPublisher c.self.inside.name.name n (view d.place) d.shown.value.world pending) (sym same)
    (taken_more _ _ n (view now.place) _ pending now.shown.value.world entries world c.self.invariant history c.take_in-writer.ensures.within.1 here)

pub returns-then-count-entries : goal.returns-then-count-entries
returns-then-count-entries g c =
    let n = c.take_in-writer.result.1 in
    let rest = drop n c.args.entries.now in
    record {
      publisher = search rules;
      told = search rules;
      shown = search rules;
      taken = (rest, ap (λ l. l ++ rest) c.take_in-writer.ensures.here ∙ take-append-drop n c.args.entries.now);
    }
