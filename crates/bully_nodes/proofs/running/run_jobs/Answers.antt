use Rattle.std.proofs.Common.{◌≡◌, ◌+◌, subst}
use Rattle.bully_base.specs.Setup.{Setup}
use Rattle.bully_config.specs.Configuration.{Configuration}
use Rattle.bully_group.specs.Seat.{AreNewSeats}
use Rattle.bully_nodes.proofs.RunLemmas.{new_seats}
use Rattle.bully_nodes.proofs.running.run_jobs.Goals as goal

pub pair_jobs-requires-clause-seats : goal.pair_jobs-requires-clause-seats
pair_jobs-requires-clause-seats g c =
    let same = subst (λ (config : Configuration). config.setup ≡ g.L.Naming.setup) c.run.view_is c.run.invariant.0 in
    new_seats g.L.Naming.setup.nodes c.args.seats.items (subst (λ (setup : Setup). AreNewSeats (setup.nodes + 1) c.args.seats.items) same c.requires.seats)
