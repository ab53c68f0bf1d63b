use Rattle.bully_group.specs.Seat.{AreNewSeats}
use Rattle.bully_group.proofs.locked.new_seats.Given as goal

abbrev pub invariant-loop-actor : goal.invariant-loop-actor
invariant-loop-actor l = AreNewSeats l.actor l.seats.items
