use Rattle.std.proofs.Common.{sym, ap, ◌∙◌}
use Rattle.bully_world.specs.State.{world_of}
use Rattle.bully_agree.proofs.LeaderLemmas.{leads, reached_agrees, vector-here}
use Rattle.bully_agree.proofs.leading.leader.Goals as goal

pub returns : goal.returns
returns c =
    let w = c.args.world.now in
    let node = c.in_ok-first_normal.field-0 in
    let is = c.coordinator.ensures ∙ (ap (λ v. v.vector.coordinator) c.vector.ensures.vector ∙ sym (ap (λ v. v.coordinator) (vector-here w node))) in
    record { leader = leads (world_of w) node c.coordinator.result (reached_agrees w c.first_normal.ensures.reached) c.in_ok-first_normal.ensures.normal is }
