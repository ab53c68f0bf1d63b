-- The step's entry is one more, and the procedure goes on by it.
use Rattle.std.proofs.Common.{rules, length, refl, ◌≡◌, ◌+◌, ◌++◌, ◌<◌, [], ◌∷◌, Some}
use Rattle.bully_steps.specs.Procedure.{state_of}
use Rattle.bully_watch.specs.declared.entry.Entry.{Entry}
use Rattle.bully_watch.specs.History.{whose}
use Rattle.bully_world.specs.State.{world_of}
use Rattle.bully_world.specs.Step.{Step}
use Rattle.bully_world.specs.Turn.{step_event}
use Rattle.bully_world.proofs.TurnTaken.{table_if_planned}
use Rattle.bully_group.specs.Locked.{LockedState}
use Rattle.bully_group.specs.Seat.{SeatState, IsKnown}
use Rattle.bully_group.proofs.SeatLemmas.{seat_more}
use Rattle.bully_group.proofs.LockedLemmas.{locked_more}
use Rattle.bully_group.proofs.WorldLemmas.{whose_turn, no_turn_raises}
use Rattle.bully_group.proofs.locked.Locked.apply_offered.Goals as goal

pub event_with_room-requires : goal.event_with_room-requires
event_with_room-requires g c e = table_if_planned c.args.self.now.world (state_of c.args.procedure.now) c.args.kind c.requires.offered e

pub invariant_of-self-2 : goal.invariant_of-self-2
invariant_of-self-2 g c =
    let w = c.self.inside.world in
    let h = state_of c.args.procedure.now in
    let s : LockedState = record { world = w; history = c.self.inside.history.items; counted = c.self.inside.book.total; publisher = c.self.inside.publisher } in
    let e : Entry = record { actor = c.seat.inside.actor; event = c.in-Ok-apply_step.event; answer = c.in-Ok-apply_step.answer } in
    let room : w.events < w.setup.events_max = search rules in
    let step : Step w.setup (world_of w) e.event (world_of c.apply_step.new.self) e.answer = search rules in
    let is : c.in-Ok-apply_step.event ≡ step_event c.args.kind h = search rules in
    let who : c.seat.inside.actor ≡ h.node = search rules in
    let yours : whose (world_of w) e.event ≡ Some e.actor = rw (is, who) (whose_turn (world_of w) c.args.kind h) in
    let same : c.apply_step.new.self.setup ≡ w.setup = search rules in
    let counted : c.apply_step.new.self.events ≡ w.events + 1 = search rules in
    let made : c.record_entry.new.history.items ≡ s.history ++ e ∷ [] = search rules in
    let total : c.count.new.book.total ≡ s.counted + 1 = search rules in
    rw (made, total) (locked_more g.L.Naming.setup g.L.Naming.publisher g.L.Ledger.parts s e c.apply_step.new.self c.self.invariant room step yours same counted)

pub returns-clause-went : goal.returns-clause-went
returns-clause-went g c = (
  c.requires.may,
  c.args.kind,
  c.requires.offered,
  search rules,
  record {
    answer = c.in-Ok-apply_step.answer;
    step = search rules;
    history = search rules;
    log = search rules;
    actor = search rules;
    setup = search rules;
    publisher = search rules;
    generations = no_turn_raises c.args.self.now.world c.apply_step.new.self c.args.kind (state_of c.args.procedure.now) (search rules);
  },
  search rules,
)

pub invariant_of-seat-2 : goal.invariant_of-seat-2
invariant_of-seat-2 g c =
    let s : SeatState = record { actor = c.seat.inside.actor; log = c.seat.inside.log.items } in
    let history = c.self.inside.history.items in
    let e : Entry = record { actor = c.seat.inside.actor; event = c.in-Ok-apply_step.event; answer = c.in-Ok-apply_step.answer } in
    let known : IsKnown history s = search rules in
    let made : c.record_entry.new.log.items ≡ s.log ++ (length history, e) ∷ [] = search rules in
    rw made (seat_more s history e c.seat.invariant known refl)
