use Rattle.bully_picture.proofs.ColumnLemmas.{space-more}
use Rattle.bully_picture.proofs.columns.fill.Goals as goal

pub loop-preserved : goal.loop-preserved
loop-preserved c = space-more c.loop.counter c.args.lines.now c.loop.lines c.push.new.self c.loop.invariant c.push.ensures
