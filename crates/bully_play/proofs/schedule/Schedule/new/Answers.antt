use Rattle.std.proofs.Common.{rules, arith}
use Rattle.std.proofs.lemmas.List.Sorted.{IsNonDecreasingBy-from_sort_by_key}
use Rattle.bully_play.proofs.ScheduleLemmas.{sorted_left}
use Rattle.bully_play.specs.Schedule.{turn_of}
use Rattle.bully_play.proofs.schedule.Schedule.new.Goals as goal

pub invariant_of-result : goal.invariant_of-result
invariant_of-result c = (IsNonDecreasingBy-from_sort_by_key turn_of _ c.in_ok-sort_by_key.ensures.sorted (λ a r q k. search rules), omega arith)

pub returns : goal.returns
returns c =
    λ number. rw (← c.in_ok-faults.ensures.items) (sorted_left _ _ c.sort_by_key.ensures.stable (λ a r q k. search rules) number)
