use Rattle.std.proofs.Common.{map, ap, ◌∙◌}
use Rattle.bully_agree.specs.NodeViews.{shown_with}
use Rattle.bully_world.specs.State.{world_of}
use Rattle.bully_agree.proofs.NodeViewLemmas.{shown-kept}
use Rattle.bully_agree.proofs.views.node_views.NodeViews.of.Goals as goal

pub returns : goal.returns
returns c = ap (map (shown_with _)) c.in_ok-kept_nodes.ensures ∙ shown-kept (world_of c.args.world.now) _ (λ i normal. c.in_ok-copied.ensures ∙ c.normal_task.ensures i normal)
