use Rattle.std.proofs.Common.{ℕ, ◌+◌, ◌<◌, Contains}
use Rattle.bully_table.specs.Balance.{base_of, count_of, IsFair}
use Rattle.bully_table.proofs.balance.are_fair.Given as goal

abbrev pub invariant-loop-place : goal.invariant-loop-place
invariant-loop-place l = (m : ℕ) → Contains l.members m → m < l.place + 1 → IsFair (base_of l.setup l.members m) (count_of m l.owners)
