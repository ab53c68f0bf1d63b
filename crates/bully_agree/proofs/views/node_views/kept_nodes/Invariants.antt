use Rattle.std.proofs.Common.{◌≡◌, map, take}
use Rattle.bully_agree.specs.NodeViews.{kept_of}
use Rattle.bully_world.specs.State.{world_of}
use Rattle.bully_agree.proofs.views.node_views.kept_nodes.Given as goal

-- the first nodes are kept
abbrev pub invariant-loop-before : goal.invariant-loop-before
invariant-loop-before l = record {
  kept : l.nodes.items ≡ map kept_of (take l.before (world_of l.world).states);
  end : l.before-end ≡ l.world.setup.nodes;
}
