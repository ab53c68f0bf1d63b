use Rattle.std.proofs.Common.{◌≡◌, ap, sym, ◌∙◌}
use Rattle.bully_calls.specs.Events.{event_at}
use Rattle.bully_rows.specs.declared.trace.Row.{Row}
use Rattle.bully_trace.specs.OneRow.{violation_of}
use Rattle.bully_trace.specs.Judging.{JudgeState}
use Rattle.bully_trace.proofs.OneRowLemmas.{taken_if_right, told_violation}
use Rattle.bully_trace.proofs.judging.Judge.try_node_event.Goals as goal

pub returns-clause-violation : goal.returns-clause-violation
returns-clause-violation c =
    c.pass_over.ensures.violation ∙ told_violation 0 (Row.Event (event_at c.args.event.kind c.args.event.node)) c.args.self.now c.feed_node_event.new.self c.requires c.feed_node_event.ensures.taken

pub returns-clause-taken : goal.returns-clause-taken
returns-clause-taken c = λ none.
    let row = Row.Event (event_at c.args.event.kind c.args.event.node) in
    let told : c.pass_over.result ≡ violation_of c.args.self.now.world row = c.pass_over.ensures.violation ∙ told_violation 0 row c.args.self.now c.feed_node_event.new.self c.requires c.feed_node_event.ensures.taken in
    let same : c.pass_over.new.self.world ≡ c.feed_node_event.new.self.world = ap (λ (j : JudgeState). j.world) c.pass_over.ensures.going in
    rw same (taken_if_right 0 row c.args.self.now c.feed_node_event.new.self c.requires c.feed_node_event.ensures.taken (sym told ∙ none))
