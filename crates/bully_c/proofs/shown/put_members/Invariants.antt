use Rattle.std.proofs.Common.{◌≡◌, ◌++◌, drop, slice_get, take}
use Rattle.bully_c.proofs.shown.put_members.Given as goal

abbrev pub invariant-loop-place : goal.invariant-loop-place
invariant-loop-place l = (l.room ≡ take l.place l.set ++ drop l.place l.initial.room) × (l.next ≡ slice_get l.set l.place)
