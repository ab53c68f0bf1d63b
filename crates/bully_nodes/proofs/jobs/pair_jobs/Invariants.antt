use Rattle.std.proofs.Common.{◌≡◌, ◌≤◌, [], All, vec_len}
use Rattle.bully_nodes.proofs.jobs.pair_jobs.Given as goal

abbrev pub invariant-loop-seat : goal.invariant-loop-seat
invariant-loop-seat g l = record {
  seats : All (λ s. (s.actor ≤ g.L.Naming.setup.nodes) × (s.log ≡ [])) l.seats.items;
  passes : All (λ p. p ≡ 0) l.passes.items;
  jobs : All (λ j. (j.seat.actor ≤ g.L.Naming.setup.nodes) × (j.seat.log ≡ []) × (j.pass ≡ 0)) l.jobs.items;
}

abbrev pub decreases-loop-seat : goal.decreases-loop-seat
decreases-loop-seat g l = vec_len l.seats
