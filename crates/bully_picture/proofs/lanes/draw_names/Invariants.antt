use Rattle.std.proofs.Common.{◌≡◌, ℕ, ◌+◌, ◌<◌}
use Rattle.std.specs.Prelude.{nat_le, option_map, slice_get}
use Rattle.bully_picture.specs.declared.layout.TheConstants.{WORDS_MIN}
use Rattle.bully_picture.specs.Drawn.{node_label}
use Rattle.bully_picture.specs.Title.{Has}
use Rattle.bully_picture.specs.Written.{IsIn}
use Rattle.bully_picture.proofs.lanes.draw_names.Given as goal

abbrev pub invariant-loop-before : goal.invariant-loop-before
invariant-loop-before l = record {
  names : IsIn l.paper (λ text. (i : ℕ) → i < l.before → Has text (node_label (nat_le WORDS_MIN l.layout.lane) (i + 1) (option_map (λ s. s.now) (slice_get l.names i))));
  end : l.before-end ≡ l.setup.nodes;
}
