use Rattle.std.proofs.Common.{◌≡◌, take, drop, replicate, length, map}
use Rattle.toml.specs.View.{view}
use Rattle.bully_base.specs.declared.TheConstants.{NODES_MAX}
use Rattle.bully_config.specs.Values.{weight_told}
use Rattle.bully_config.proofs.reading.read_weights.Given as goal

abbrev pub invariant-loop-place : goal.invariant-loop-place
invariant-loop-place l = record {
  told : take l.place l.weights ≡ map weight_told (map view (take l.place l.items));
  left : drop l.place l.weights ≡ drop l.place (replicate NODES_MAX 1);
  size : length l.weights ≡ NODES_MAX;
  end : l.place-end ≡ length l.items;
}
