-- The row is one more of those that were learned.
use Rattle.std.proofs.Common.{◌≡◌, None, ap, sym, subst, ◌∙◌, rules}
use Rattle.bully_base.specs.Setup.{Setup}
use Rattle.bully_replica.specs.Replica.{Learns, ReplicaState, plan_behind}
use Rattle.bully_rows.specs.declared.trace.Row.{Row}
use Rattle.bully_trace.specs.OneRow.{IsRowTaken, violation_of}
use Rattle.bully_replica.proofs.LogLemmas.{counts_row, learns, replica_more, taken_setup}
use Rattle.bully_replica.proofs.replica.Replica.learn_row.Goals as goal
use Rattle.bully_replica.proofs.replica.Replica.learn_row.Goals.{After-note_row}

abbrev row : After-note_row → Row
row c = c.args.row.now

abbrev before : After-note_row → ReplicaState
before c = record { version = c.self.inside.judge.version; world = c.self.inside.judge.world; last = c.self.inside.last.plan }

abbrev after : After-note_row → ReplicaState
after c = record { version = c.try_row.new.self.version; world = c.try_row.new.self.world; last = c.note_row.new.last.plan }

right : (c : After-note_row) → violation_of (before c).world (row c) ≡ None
right c = let none : c.try_row.result ≡ None = search rules in sym c.try_row.ensures.violation ∙ none

taken : (c : After-note_row) → IsRowTaken (before c).world (row c) (after c).world
taken c = let none : c.try_row.result ≡ None = search rules in c.try_row.ensures.taken none

planned : (c : After-note_row) → (after c).last ≡ plan_behind (before c).world.events (before c).last (row c)
planned c = c.note_row.ensures.plan (before c).world.events (counts_row (row c) (before c).world (after c).world c.events-token.result (taken c) (search rules))

pub invariant_of-self-2 : goal.invariant_of-self-2
invariant_of-self-2 c = (
  replica_more (before c) (after c) (row c) (taken c) (planned c) c.self.invariant.0,
  c.note_row.ensures.room ∙ c.self.invariant.1 ∙ ap (λ (s : Setup). s.partitions) (sym (taken_setup (row c) (before c).world (after c).world (taken c))),
  c.try_row.ensures.going.0,
)

pub returns-clause-learned : goal.returns-clause-learned
returns-clause-learned c =
    subst (λ (r : ReplicaState). Learns (row c) r (after c)) c.self.view_is
    (learns (before c) (after c) (row c) (right c) c.try_row.ensures.going.1 (taken c) (planned c))
