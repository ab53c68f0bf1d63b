use Rattle.bully_run.proofs.next.Goals as goal

pub returns : goal.returns
returns c =
    let (sight, sees) = c.next.ensures.sees in
    record {
      sight = sight;
      sees = sees;
      due = c.next.ensures.due sight sees;
      noted = c.next.ensures.noted sight.is_stable sees.stable;
      keeps = c.next.ensures.keeps;
      awaits = c.next.ensures.awaits;
      stops = c.next.ensures.stops;
    }
