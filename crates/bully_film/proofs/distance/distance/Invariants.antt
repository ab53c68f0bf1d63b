use Rattle.std.proofs.Common.{◌≡◌}
use Rattle.bully_film.specs.Distance.{distance, number_up_to}
use Rattle.bully_film.proofs.distance.distance.Given as goal

abbrev pub invariant-loop-place : goal.invariant-loop-place
invariant-loop-place l = l.apart ≡ distance (number_up_to l.from l.places l.place) (number_up_to l.to l.places l.place)
