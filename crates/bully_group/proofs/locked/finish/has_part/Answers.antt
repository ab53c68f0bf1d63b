-- There are as many entries as the actor has.
use Rattle.std.proofs.Common.{rules, ◌≡◌, ◌↔◌, ℕ, List, IsTrue, length, sym, subst}
use Rattle.bully_group.specs.Finish.{AllStand, entries_of}
use Rattle.bully_group.specs.Seat.{SeatState}
use Rattle.bully_group.proofs.PartCounts.{has_part_if, stand_if_part}
use Rattle.bully_watch.specs.declared.entry.Entry.{Entry}
use Rattle.bully_group.proofs.locked.finish.has_part.Goals as goal

pub returns-then-len-counts : goal.returns-then-len-counts
returns-then-len-counts c =
    let s : SeatState = record { actor = c.seat.inside.actor; log = c.seat.inside.log.items } in
    let history = c.args.history.now in
    let count : length s.log ≡ entries_of s.actor history = search rules in
    let same : c.deref.result.now ≡ s.log = search rules in
    let told : IsTrue c.all_stand.result ↔ AllStand history s.log = subst (λ (log : List (ℕ × Entry)). IsTrue c.all_stand.result ↔ AllStand history log) same c.all_stand.ensures in
    rw (sym c.seat.view_is) (λ all. has_part_if history s c.seat.invariant (told.0 all) count, λ has. told.1 (stand_if_part history s has).0)
