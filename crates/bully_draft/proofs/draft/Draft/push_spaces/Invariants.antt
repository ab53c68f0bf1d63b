use Rattle.std.specs.Prelude.{replicate}
use Rattle.bully_draft.specs.Drafted.{Appends}
use Rattle.bully_draft.proofs.draft.Draft.push_spaces.Given as goal

abbrev pub invariant-loop : goal.invariant-loop
invariant-loop l = Appends l.initial.self l.self (replicate l.counter 32)
