use Rattle.std.proofs.Common.{◌≡◌, ◌≤◌, [], IfSome, subst}
use Rattle.std.proofs.lemmas.List.Elements.{All-pop, All-push}
use Rattle.bully_nodes.proofs.jobs.pair_jobs.Goals as goal

pub loop-seat-preserved : goal.loop-seat-preserved
loop-seat-preserved g c =
    let seats = All-pop (λ s. (s.actor ≤ g.L.Naming.setup.nodes) × (s.log ≡ [])) c.loop-seat.seats.items c.pop.new.self.items c.pop.result c.pop.ensures.items c.loop-seat.invariant.seats in
    let passes = All-pop (λ p. p ≡ 0) c.loop-seat.passes.items c.pop-in-Some.new.self.items c.pop-in-Some.result c.pop-in-Some.ensures.items c.loop-seat.invariant.passes in
    let seat = subst (λ r. IfSome r (λ s. (s.actor ≤ g.L.Naming.setup.nodes) × (s.log ≡ []))) c.in-Some.is seats.1 in
    let pass = subst (λ r. IfSome r (λ p. p ≡ 0)) c.in-Some-pop.is passes.1 in
    record {
      seats = seats.0;
      passes = passes.0;
      jobs = rw (c.push.ensures.items, c.in_ok-push.was) (All-push (λ j. (j.seat.actor ≤ g.L.Naming.setup.nodes) × (j.seat.log ≡ []) × (j.pass ≡ 0)) c.loop-seat.jobs.items _ c.loop-seat.invariant.jobs (seat.0, seat.1, pass));
    }
