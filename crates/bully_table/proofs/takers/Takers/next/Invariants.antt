use Rattle.std.proofs.Common.{◌≡◌, ◌-◌}
use Rattle.bully_base.specs.declared.TheConstants.{NODES_MAX}
use Rattle.bully_table.specs.Takers.{takers_left}
use Rattle.bully_table.proofs.takers.Takers.next.Given as goal

abbrev pub invariant-loop-self : goal.invariant-loop-self
invariant-loop-self l =
    takers_left l.self-inside.quotas.now l.self-inside.counts.now l.self-inside.node l.self-inside.room
    ≡ takers_left l.initial.self-inside.quotas.now l.initial.self-inside.counts.now l.initial.self-inside.node l.initial.self-inside.room

abbrev pub decreases-loop-self : goal.decreases-loop-self
decreases-loop-self l = NODES_MAX - l.self-inside.node
