use Rattle.std.proofs.Common.{◌≡◌, ◌+◌, drop, map}
use Rattle.std.specs.List.{position_from}
use Rattle.std.specs.Str.{bytes_eq}
use Rattle.toml.specs.View.{view}
use Rattle.bully_config.specs.Configuration.{node_named}
use Rattle.bully_config.specs.Values.{names_of}
use Rattle.bully_config.proofs.lookup.node_named.Given as goal

abbrev pub invariant-loop-item : goal.invariant-loop-item
invariant-loop-item l =
    (l.number ≡ l.item-index)
    × (position_from (bytes_eq l.name) (l.item-index + 1) (names_of (map view (drop l.item-index l.names))) ≡ node_named (names_of (map view l.names)) l.name)
