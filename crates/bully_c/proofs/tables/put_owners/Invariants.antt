use Rattle.std.proofs.Common.{◌≡◌, ◌++◌, drop, take}
use Rattle.bully_c.proofs.tables.put_owners.Given as goal

abbrev pub invariant-loop-place : goal.invariant-loop-place
invariant-loop-place l = l.room ≡ take l.place l.table ++ drop l.place l.initial.room
