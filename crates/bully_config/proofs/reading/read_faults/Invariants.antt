use Rattle.std.proofs.Common.{◌≡◌, ◌++◌, drop, map}
use Rattle.toml.specs.View.{view}
use Rattle.bully_config.specs.Values.{faults_in, names_of}
use Rattle.bully_config.proofs.reading.read_faults.Given as goal

abbrev pub invariant-loop-item : goal.invariant-loop-item
invariant-loop-item l =
    l.faults.items ++ faults_in l.turns (names_of (map view l.names)) (map view (drop l.item-index l.items))
    ≡ faults_in l.turns (names_of (map view l.names)) (map view l.items)
