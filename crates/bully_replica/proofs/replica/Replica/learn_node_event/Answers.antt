-- The row is one more of those that were learned.
use Rattle.std.proofs.Common.{◌≡◌, None, ap, sym, subst, ◌∙◌, rules}
use Rattle.bully_base.specs.Setup.{Setup}
use Rattle.bully_replica.specs.Replica.{Learns, ReplicaState, plan_behind}
use Rattle.bully_rows.specs.declared.trace.Row.{Row}
use Rattle.bully_trace.specs.OneRow.{IsRowTaken, violation_of}
use Rattle.bully_calls.specs.Events.{event_at}
use Rattle.bully_replica.proofs.LogLemmas.{learns, no_plan_named, replica_more, taken_setup}
use Rattle.bully_replica.proofs.replica.Replica.learn_node_event.Goals as goal
use Rattle.bully_replica.proofs.replica.Replica.learn_node_event.Goals.{In_default}

abbrev row : In_default → Row
row c = Row.Event (event_at c.args.event.kind c.args.event.node)

abbrev before : In_default → ReplicaState
before c = record { version = c.self.inside.judge.version; world = c.self.inside.judge.world; last = c.self.inside.last.plan }

abbrev after : In_default → ReplicaState
after c = record { version = c.try_node_event.new.self.version; world = c.try_node_event.new.self.world; last = c.self.inside.last.plan }

right : (c : In_default) → violation_of (before c).world (row c) ≡ None
right c = let none : c.try_node_event.result ≡ None = search rules in sym c.try_node_event.ensures.violation ∙ none

taken : (c : In_default) → IsRowTaken (before c).world (row c) (after c).world
taken c = let none : c.try_node_event.result ≡ None = search rules in c.try_node_event.ensures.taken none

planned : (c : In_default) → (after c).last ≡ plan_behind (before c).world.events (before c).last (row c)
planned c = sym (no_plan_named (before c).world.events (before c).last c.args.event.kind c.args.event.node)

pub invariant_of-self-2 : goal.invariant_of-self-2
invariant_of-self-2 c = (
  replica_more (before c) (after c) (row c) (taken c) (planned c) c.self.invariant.0,
  c.self.invariant.1 ∙ ap (λ (s : Setup). s.partitions) (sym (taken_setup (row c) (before c).world (after c).world (taken c))),
  c.try_node_event.ensures.going.0,
)

pub returns-clause-learned : goal.returns-clause-learned
returns-clause-learned c =
    subst (λ (r : ReplicaState). Learns (row c) r (after c)) c.self.view_is
    (learns (before c) (after c) (row c) (right c) c.try_node_event.ensures.going.1 (taken c) (planned c))
