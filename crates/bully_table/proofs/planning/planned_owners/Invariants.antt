use Rattle.std.proofs.Common.{◌≡◌, ◌≤◌, drop}
use Rattle.std.specs.Vec.{vec_capacity}
use Rattle.bully_table.specs.Planning.{quota, planned_by}
use Rattle.bully_table.specs.Takers.{AreLeft}
use Rattle.bully_table.proofs.PlannedLemmas.{leaving}
use Rattle.bully_table.proofs.planning.planned_owners.Given as goal

abbrev pub invariant-loop-place : goal.invariant-loop-place
invariant-loop-place l = record {
  planned : l.owners.items ≡ planned_by (quota l.fn.setup l.before l.members) l.place l.before l.members;
  taking : l.takers ≡ drop (leaving (quota l.fn.setup l.before l.members) l.before l.members l.place) l.initial.takers;
  room : l.fn.setup.partitions ≤ vec_capacity l.owners;
  left : AreLeft (quota l.fn.setup l.before l.members) l.before l.place l.left;
}
