use Rattle.std.proofs.Common.{sym, ap, ◌∙◌}
use Rattle.std.specs.Option.{option_copied}
use Rattle.bully_world.specs.State.{world_of}
use Rattle.bully_agree.proofs.LeaderLemmas.{has-task, reached_agrees, vector-here}
use Rattle.bully_agree.proofs.views.node_views.normal_task.Goals as goal

pub returns : goal.returns
returns c =
    let w = c.args.world.now in
    let node = c.in_ok-first_normal.field-0 in
    has-task (world_of w) node (option_copied c.task.result) (reached_agrees w c.first_normal.ensures.reached) c.in_ok-first_normal.ensures.normal
    (c.task.ensures ∙ (ap (λ v. v.vector.task) c.vector.ensures.vector ∙ sym (ap (λ v. v.task) (vector-here w node))))
