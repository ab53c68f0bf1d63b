-- Each arm's tests are those of the definitions at the node state of the event's node.
use Rattle.std.proofs.Common.{◌≤◌, arith, subst}
use Rattle.bully_calls.specs.declared.event.Event.{Event}
use Rattle.bully_calls.specs.Events.{node_of}
use Rattle.bully_world.specs.NodeInvariant.{NodeInvariant}
use Rattle.bully_world.specs.State.{node_state_of}
use Rattle.bully_steps.specs.Point.{IsPointOf}
use Rattle.bully_world.proofs.CauseAt.{named_is, at_event}
use Rattle.bully_world.proofs.Events.Checking.{check-cause, timeout-cause}
use Rattle.bully_world.proofs.Events.Starting.{start-cause}
use Rattle.bully_world.proofs.Events.Moving.{move-cause}
use Rattle.bully_world.proofs.Events.Planning.{plan-cause}
use Rattle.bully_world.proofs.Events.Returning.{return-cause}
use Rattle.bully_world.proofs.Events.Dropping.{drop-cause}
use Rattle.bully_world.proofs.causes.own_cause.Goals as goal

pub offer-requires : goal.offer-requires
offer-requires c = subst (λ e. IsPointOf c.args.setup.now (node_of e) c.args.named.now.point) c.in-Start.is c.requires.fits.is_point

pub offer-requires-in-Move : goal.offer-requires-in-Move
offer-requires-in-Move c = subst (λ e. IsPointOf c.args.setup.now (node_of e) c.args.named.now.point) c.in-Move.is c.requires.fits.is_point

pub plan_cause-requires : goal.plan_cause-requires
plan_cause-requires c =
    let fits : NodeInvariant c.args.setup.now c.in-Plan.node (node_state_of c.args.named.now) = subst (λ e. NodeInvariant c.args.setup.now (node_of e) (node_state_of c.args.named.now)) c.in-Plan.is c.requires.fits in
    record {
      point = fits.is_point;
      node = subst (λ e. node_of e ≤ c.args.setup.now.nodes) c.in-Plan.is c.requires.node;
      up = fits.by_setup.up;
    }

pub returns-in-Start : goal.returns-in-Start
returns-in-Start c = λ w count here.
    let there = named_is w (node_state_of c.args.named.now) c.args.event.now (Event.Start c.in-Start.node) c.in-Start.is here in
    at_event c.args.setup.now w count c.args.event.now (Event.Start c.in-Start.node) _ c.in-Start.is (grind (arith, start-cause c.args.setup.now w count c.in-Start.node (node_state_of c.args.named.now) there, c.step_cause.ensures, c.offers_call.ensures, c.offer.ensures))

pub returns-in-Move : goal.returns-in-Move
returns-in-Move c = λ w count here.
    let there = named_is w (node_state_of c.args.named.now) c.args.event.now (Event.Move c.in-Move.node) c.in-Move.is here in
    at_event c.args.setup.now w count c.args.event.now (Event.Move c.in-Move.node) _ c.in-Move.is (grind (arith, move-cause c.args.setup.now w count c.in-Move.node (node_state_of c.args.named.now) there, c.step_cause-in-Move.ensures, c.offers_move.ensures, c.offer-in-Move.ensures))

pub returns-in-Plan : goal.returns-in-Plan
returns-in-Plan c = λ w count here.
    let there = named_is w (node_state_of c.args.named.now) c.args.event.now (Event.Plan c.in-Plan.node c.in-Plan.table) c.in-Plan.is here in
    at_event c.args.setup.now w count c.args.event.now (Event.Plan c.in-Plan.node c.in-Plan.table) _ c.in-Plan.is (grind (arith, plan-cause c.args.setup.now w count c.in-Plan.node (node_state_of c.args.named.now) c.in-Plan.table there, c.plan_cause.ensures))

pub returns-in-Return : goal.returns-in-Return
returns-in-Return c = λ w count here.
    let there = named_is w (node_state_of c.args.named.now) c.args.event.now (Event.Return c.in-Return.field-0) c.in-Return.is here in
    at_event c.args.setup.now w count c.args.event.now (Event.Return c.in-Return.field-0) _ c.in-Return.is (grind (arith, return-cause c.args.setup.now w count c.in-Return.field-0 (node_state_of c.args.named.now) there, c.refused_if-in-Return.ensures, c.has_come.ensures))

pub returns-in-Drop : goal.returns-in-Drop
returns-in-Drop c = λ w count here.
    let there = named_is w (node_state_of c.args.named.now) c.args.event.now (Event.Drop c.in-Drop.field-0) c.in-Drop.is here in
    at_event c.args.setup.now w count c.args.event.now (Event.Drop c.in-Drop.field-0) _ c.in-Drop.is (grind (arith, drop-cause c.args.setup.now w count c.in-Drop.field-0 (node_state_of c.args.named.now) there, c.drop_cause.ensures))

pub returns-in-Check : goal.returns-in-Check
returns-in-Check c = λ w count here.
    let there = named_is w (node_state_of c.args.named.now) c.args.event.now (Event.Check c.in-Check.field-0) c.in-Check.is here in
    at_event c.args.setup.now w count c.args.event.now (Event.Check c.in-Check.field-0) _ c.in-Check.is (grind (arith, check-cause c.args.setup.now w count c.in-Check.field-0 (node_state_of c.args.named.now) there, c.refused_if.ensures, c.is_idle.ensures, c.stored_point.ensures))

pub returns-in-Timeout : goal.returns-in-Timeout
returns-in-Timeout c = λ w count here.
    let there = named_is w (node_state_of c.args.named.now) c.args.event.now (Event.Timeout c.in-Timeout.field-0) c.in-Timeout.is here in
    at_event c.args.setup.now w count c.args.event.now (Event.Timeout c.in-Timeout.field-0) _ c.in-Timeout.is (grind (arith, timeout-cause c.args.setup.now w count c.in-Timeout.field-0 (node_state_of c.args.named.now) there, c.refused_if-in-Timeout.ensures, c.is_idle-in-Timeout.ensures, c.stored_point-in-Timeout.ensures))
