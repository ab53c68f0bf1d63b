use Rattle.std.proofs.Common.{◌∙◌, ◌+◌, ◌-◌, ◌*◌, length, ap, sym}
use Rattle.bully_base.specs.Setup.{Setup}
use Rattle.bully_rebalance.proofs.RebalancedLemmas.{size_of_rebalancing}
use Rattle.bully_rebalance.proofs.rebalancing.count_rebalance.Goals as goal
use Rattle.bully_world.specs.State.{world_of}

pub returns-in-Some-clause-count : goal.returns-in-Some-clause-count
returns-in-Some-clause-count c = λ old.
    size_of_rebalancing c.args.world.now.setup (world_of c.args.world.now) old c.args.live.now c.in-Some.highest c.count_prepared.result c.count_election.result
    (sym c.highest.ensures.highest ∙ c.in-Some.is) c.requires.nodes c.in-Some.ensures.falling c.count_prepared.ensures.count
    (c.count_election.ensures.count ∙ ap (λ (setup : Setup). 3 * setup.nodes + 6 * (length c.args.live.now - 1) + 2) c.setup.ensures.setup)
