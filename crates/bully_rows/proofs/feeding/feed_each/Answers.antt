use Rattle.std.proofs.Common.{rules, suc}
use Rattle.bully_rows.proofs.feeding.feed_each.Goals as goal

pub loop-preserved : goal.loop-preserved
loop-preserved g c =
    let taken = c.in_ok-feed_next.ensures.taken (search rules) in
    let (n, so_far) = c.loop.invariant in
    (suc n, (c.loop.rows, c.loop.sink, so_far, taken.0, taken.1))
