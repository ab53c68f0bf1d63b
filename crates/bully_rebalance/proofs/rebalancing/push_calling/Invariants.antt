use Rattle.std.proofs.Common.{◌≡◌, ◌++◌, ◌-◌}
use Rattle.bully_rebalance.proofs.rebalancing.push_calling.Given as goal
use Rattle.bully_rebalance.specs.Rebalancing.{repeated, whole_call}

-- so many calls are left to be pushed
abbrev pub invariant-loop : goal.invariant-loop
invariant-loop l = l.events.items ++ repeated (l.count - l.counter) (whole_call l.node l.are_answered) ≡ l.fn.events.items ++ repeated l.count (whole_call l.node l.are_answered)
