use Rattle.std.proofs.Common.{◌≤◌}
use Rattle.bully_table.proofs.BaseSteps.{AreStill, BasedBelow}
use Rattle.bully_table.proofs.quotas.write_bases.Given as goal

abbrev pub invariant-loop-place : goal.invariant-loop-place
invariant-loop-place l = record {
  few : l.beyond.above ≤ l.place;
  still : AreStill (λ m. 0) l.place l.bases;
  below : BasedBelow l.setup l.members l.counts l.beyond.rest l.beyond.above l.place l.bases;
}
