use Rattle.bully_rows.proofs.FeedingLemmas.{text-stops, text-to-end}
use Rattle.bully_rows.proofs.trace_feeding.feed_text.Goals as goal

pub returns-clause-taken : goal.returns-clause-taken
returns-clause-taken g c = λ known unread.
    text-to-end g.T.TraceSink.has_taken known c.args.rows.now c.feed_each.new.rows c.args.feed.now c.feed_each.new.sink c.feed_each.result c.requires unread c.feed_each.ensures.all

pub returns-clause-fault : goal.returns-clause-fault
returns-clause-fault g c = λ known unread.
    text-stops g.T.TraceSink.has_taken known c.args.rows.now c.feed_each.new.rows c.args.feed.now c.feed_each.new.sink c.feed_each.result c.requires unread c.feed_each.ensures.part
