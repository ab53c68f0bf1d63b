use Rattle.std.proofs.Common.{◌≡◌, take, map, string_bytes}
use Rattle.toml.specs.View.{view}
use Rattle.bully_config.specs.Values.{names_of}
use Rattle.bully_config.proofs.reading.read_names.Given as goal

abbrev pub invariant-loop-item : goal.invariant-loop-item
invariant-loop-item l = map (λ s. string_bytes s) l.names.keys ≡ take l.item-index (names_of (map view l.items))
