-- A step that the turn rule offers isn't refused where there is room, and the procedure that goes on by it is in step.
use Rattle.std.proofs.Common.{◌≡◌, None, arith, rules, ◌∙◌, ap}
use Rattle.bully_steps.specs.Procedure.{state_of}
use Rattle.bully_world.specs.State.{cause_in}
use Rattle.bully_world.specs.Turn.{step_event, is_in_step}
use Rattle.bully_world.proofs.ProcedureAfter.{identity_after}
use Rattle.bully_world.proofs.TurnTaken.{free_if_offered, table_if_planned, applied_goes_on, can_go_on, gone_on}
use Rattle.bully_world.proofs.world.World.apply_step.Goals as goal

pub take_event-event-requires : goal.take_event-event-requires
take_event-event-requires c e = table_if_planned c.args.self.now (state_of c.args.procedure.now) c.args.kind c.requires.offered e

pub apply_allowed-answer-requires : goal.apply_allowed-answer-requires
apply_allowed-answer-requires c =
    let room = c.is_full.ensures.room c.if-is_full.false in
    let free : cause_in c.args.self.now (step_event c.args.kind (state_of c.args.procedure.now)) ≡ None =
    free_if_offered c.args.self.now (state_of c.args.procedure.now) c.args.kind c.is_full.ensures.reached c.take_event-event.ensures.state c.requires.setup c.requires.offered room in
    ap (cause_in c.args.self.now) c.take_event-event.ensures.event ∙ free

pub advance_after-requires : goal.advance_after-requires
advance_after-requires c = can_go_on c.args.kind c.apply_allowed-answer.result (state_of c.args.procedure.now) (state_of c.take_event-event.new.procedure) c.take_event-event.ensures.left
    (applied_goes_on c.args.self.now c.apply_allowed-answer.new.self (state_of c.args.procedure.now) c.args.kind c.take_event-event.result c.apply_allowed-answer.result c.is_full.ensures.reached c.requires.setup c.requires.offered c.take_event-event.ensures.event c.apply_allowed-answer.ensures.applied.setup c.apply_allowed-answer.ensures.applied.step c.apply_allowed-answer.ensures.applied.generations).1

pub returns-clause-procedure : goal.returns-clause-procedure
returns-clause-procedure c = c.advance_after.ensures ∙ gone_on c.args.kind c.apply_allowed-answer.result (state_of c.args.procedure.now) (state_of c.take_event-event.new.procedure) c.take_event-event.ensures.left

pub returns-clause-in_step : goal.returns-clause-in_step
returns-clause-in_step c =
    let goes = c.advance_after.ensures ∙ gone_on c.args.kind c.apply_allowed-answer.result (state_of c.args.procedure.now) (state_of c.take_event-event.new.procedure) c.take_event-event.ensures.left in
    ap (is_in_step c.apply_allowed-answer.new.self) goes
    ∙ (applied_goes_on c.args.self.now c.apply_allowed-answer.new.self (state_of c.args.procedure.now) c.args.kind c.take_event-event.result c.apply_allowed-answer.result c.is_full.ensures.reached c.requires.setup c.requires.offered c.take_event-event.ensures.event c.apply_allowed-answer.ensures.applied.setup c.apply_allowed-answer.ensures.applied.step c.apply_allowed-answer.ensures.applied.generations).0

pub returns-clause-same_node : goal.returns-clause-same_node
returns-clause-same_node c =
    let owner = identity_after c.args.kind c.apply_allowed-answer.result (state_of c.args.procedure.now) in
    let goes = c.advance_after.ensures ∙ gone_on c.args.kind c.apply_allowed-answer.result (state_of c.args.procedure.now) (state_of c.take_event-event.new.procedure) c.take_event-event.ensures.left in
    record { setup = grind (arith, goes, owner.0); node = grind (arith, goes, owner.1) }

pub returns-clause-step : goal.returns-clause-step
returns-clause-step c = search rules

pub returns-clause-event : goal.returns-clause-event
returns-clause-event c = search rules
