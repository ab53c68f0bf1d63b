use Rattle.std.proofs.Common.{◌≡◌, replicate}
use Rattle.bully_world.specs.State.{empty_state}
use Rattle.bully_world.proofs.world.reserve.Given as goal

abbrev pub invariant-loop : goal.invariant-loop
invariant-loop l = l.states.items ≡ replicate l.counter (empty_state l.setup.partitions)
