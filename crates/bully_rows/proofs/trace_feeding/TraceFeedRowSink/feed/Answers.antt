use Rattle.std.proofs.Common.{refl}
use Rattle.std.proofs.lemmas.Result.{IfOk-weaker}
use Rattle.bully_rows.proofs.trace_feeding.TraceFeedRowSink.feed.Goals as goal

pub returns-in-Some-clause-takes : goal.returns-in-Some-clause-takes
returns-in-Some-clause-takes g c =
    rw c.in-Some.is (IfOk-weaker c.feed_row.result _ _ (λ _ taken. (refl, taken)) (c.feed_row.ensures.taken c.args.self.now.start))
