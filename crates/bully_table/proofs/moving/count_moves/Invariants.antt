use Rattle.std.proofs.Common.{◌≡◌, ◌≤◌, not, ◌==◌}
use Rattle.bully_table.specs.Planning.{owner_at, places_where}
use Rattle.bully_table.proofs.moving.count_moves.Given as goal

abbrev pub invariant-loop-place : goal.invariant-loop-place
invariant-loop-place l = (l.count ≤ l.place) × (l.count ≡ places_where (λ p. not (owner_at l.old p == owner_at l.new p)) l.place)
