use Rattle.std.proofs.Common.{◌≡◌, ◌++◌}
use Rattle.std.specs.String.{string_bytes}
use Rattle.bully_world.specs.State.{world_of}
use Rattle.bully_json.specs.Objects.{node_objects}
use Rattle.bully_json.proofs.verdicts.push_nodes.Given as goal

abbrev pub invariant-loop-before : goal.invariant-loop-before
invariant-loop-before l = record {
  text : string_bytes l.text ≡ string_bytes l.fn.text ++ node_objects (world_of l.world) l.before;
  end : l.before-end ≡ l.world.setup.nodes;
}
