use Rattle.std.proofs.Common.{◌≡◌}
use Rattle.toml.specs.View.{members_view}
use Rattle.bully_config.specs.Refusals.{first_unlisted}
use Rattle.bully_config.proofs.refusal.first_unlisted.Given as goal

abbrev pub invariant-loop-word : goal.invariant-loop-word
invariant-loop-word l =
    (goal.iterator-loop-word).can_next l.word-iterator
    × (goal.iterator-loop-word).is_finite l.word-iterator
    × (first_unlisted l.keys (members_view l.word-iterator) ≡ first_unlisted l.keys (members_view l.table.entries))
