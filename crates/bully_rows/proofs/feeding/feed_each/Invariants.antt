use Rattle.std.proofs.Common.{◌+◌, ◌-◌, ℕ}
use Rattle.bully_rows.specs.Feeding.{AreTakenBy}
use Rattle.bully_rows.specs.declared.TheConstants.{ROWS_MAX}
use Rattle.bully_rows.proofs.feeding.feed_each.Given as goal

abbrev pub invariant-loop : goal.invariant-loop
invariant-loop g l = (n : ℕ) × AreTakenBy g.T.RowSink.takes n l.fn.rows l.fn.sink l.rows l.sink

abbrev pub decreases-loop : goal.decreases-loop
decreases-loop g l = ROWS_MAX + 1 - l.rows.number
