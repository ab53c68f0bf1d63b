use Rattle.std.proofs.Common.{◌≡◌, map, take}
use Rattle.bully.proofs.drawing.all_names.Given as goal

abbrev pub invariant-loop-before : goal.invariant-loop-before
invariant-loop-before l = record {
  names : map (λ s. s.now) l.names.items ≡ take l.before l.config.names;
  end : l.before-end ≡ l.config.setup.nodes;
}
