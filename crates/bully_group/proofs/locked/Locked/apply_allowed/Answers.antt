-- The event's entry is one more, and the world goes one step by it.
use Rattle.std.proofs.Common.{rules, List, length, refl, sym, subst, ◌≡◌, ◌+◌, ◌++◌, ◌<◌, [], ◌∷◌, Some, None}
use Rattle.bully_calls.specs.declared.event.Event.{Event}
use Rattle.bully_watch.specs.declared.entry.Entry.{Entry}
use Rattle.bully_watch.specs.History.{whose}
use Rattle.bully_world.specs.State.{WorldState, RaisesGenerations, world_of, cause_in}
use Rattle.bully_world.specs.Step.{Step}
use Rattle.bully_world.proofs.ApplyLemmas.{room_of}
use Rattle.bully_group.specs.Locked.{LockedState}
use Rattle.bully_group.specs.Seat.{SeatState, IsKnown}
use Rattle.bully_group.proofs.SeatLemmas.{seat_more}
use Rattle.bully_group.proofs.LockedLemmas.{locked_more}
use Rattle.bully_group.proofs.locked.Locked.apply_allowed.Goals as goal

pub invariant_of-self-2 : goal.invariant_of-self-2
invariant_of-self-2 g c =
    let w = c.self.inside.world in
    let s : LockedState = record { world = w; history = c.self.inside.history.items; counted = c.self.inside.book.total; publisher = c.self.inside.publisher } in
    let e : Entry = record { actor = c.seat.inside.actor; event = c.in-Ok.event; answer = c.apply_allowed-answer.result } in
    let free : cause_in w c.args.event.now ≡ None = search rules in
    let room : w.events < w.setup.events_max = room_of w.setup (world_of w) w.events c.args.event.now free in
    let step : Step w.setup (world_of w) e.event (world_of c.apply_allowed-answer.new.self) e.answer = search rules in
    let yours : whose (world_of w) e.event ≡ Some e.actor = search rules in
    let same : c.apply_allowed-answer.new.self.setup ≡ w.setup = search rules in
    let counted : c.apply_allowed-answer.new.self.events ≡ w.events + 1 = search rules in
    let made : c.record_entry.new.history.items ≡ s.history ++ e ∷ [] = search rules in
    let total : c.count.new.book.total ≡ s.counted + 1 = search rules in
    rw (made, total) (locked_more g.L.Naming.setup g.L.Naming.publisher g.L.Ledger.parts s e c.apply_allowed-answer.new.self c.self.invariant room step yours same counted)

pub returns-clause-entry : goal.returns-clause-entry
returns-clause-entry g c =
    let before : WorldState = c.self.inside.world in
    let after : WorldState = c.apply_allowed-answer.new.self in
    let same : before ≡ c.args.self.now.world = search rules in
    let is : c.in-Ok.event ≡ c.args.event.now = search rules in
    let raised : RaisesGenerations c.in-Ok.event before after = c.apply_allowed-answer.ensures.applied.generations in
    record {
      answer = c.apply_allowed-answer.result;
      step = search rules;
      history = search rules;
      log = search rules;
      actor = search rules;
      setup = search rules;
      publisher = search rules;
      generations =
          subst (λ (e : Event). RaisesGenerations e c.args.self.now.world after) is (subst (λ (w : WorldState). RaisesGenerations c.in-Ok.event w after) same raised);
    }

pub invariant_of-seat-2 : goal.invariant_of-seat-2
invariant_of-seat-2 g c =
    let s : SeatState = record { actor = c.seat.inside.actor; log = c.seat.inside.log.items } in
    let history = c.self.inside.history.items in
    let e : Entry = record { actor = c.seat.inside.actor; event = c.in-Ok.event; answer = c.apply_allowed-answer.result } in
    let same : c.args.self.now.history ≡ history = search rules in
    let known : IsKnown history s = subst (λ (h : List Entry). IsKnown h s) same (subst (IsKnown c.args.self.now.history) (sym c.seat.view_is) c.requires.known) in
    let made : c.record_entry.new.log.items ≡ s.log ++ (length history, e) ∷ [] = search rules in
    rw made (seat_more s history e c.seat.invariant known refl)
