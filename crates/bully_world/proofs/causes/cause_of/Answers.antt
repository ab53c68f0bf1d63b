-- The first refusals are tested in their order; the later ones are asked of a node that is up.
use Rattle.std.proofs.Common.{◌≡◌, ◌<◌, arith, ◌∙◌, ap, sym, subst}
use Rattle.bully_base.specs.Setup.{IsNode}
use Rattle.bully_calls.specs.Events.{node_of}
use Rattle.bully_world.specs.Cause.{cause}
use Rattle.bully_world.specs.State.{node_state_of, world_in}
use Rattle.bully_world.proofs.CauseAt.{node_state-place, place-within, cause-recover, cause-later, down-test}
use Rattle.bully_world.proofs.causes.cause_of.Goals as goal

pub returns-in-Recover : goal.returns-in-Recover
returns-in-Recover c =
    let room : c.args.events < c.args.setup.now.events_max = omega (arith, c.is_full_for.ensures.room c.if-is_full_for.false) in
    let node : IsNode c.args.setup.now (node_of c.args.event.now) = grind (arith, c.if-number-nodes.false, c.number.ensures.number, c.number.ensures.within, c.nodes.ensures.nodes, c.node-node.ensures) in
    let place = c.place_of.ensures ∙ c.node-node.ensures in
    let here = node_state-place c.args.states.now c.place_of.result (node_of c.args.event.now) c.index-states-place_of.result place (place-within c.args.setup.now c.args.states.now c.place_of.result (node_of c.args.event.now) c.requires place node.1) c.index-states-place_of.is in
    let down = down-test (world_in c.args.states.now) (node_of c.args.event.now) (node_state_of c.index-states-place_of.result) c.is_down-is_down.result here c.is_down-is_down.ensures.0 c.is_down-is_down.ensures.1 in
    let named : node_of c.args.event.now ≡ c.in-Recover.field-0 = ap node_of c.in-Recover.is in
    let recovers = cause-recover c.args.setup.now (world_in c.args.states.now) c.args.events c.in-Recover.field-0 room (rw named at node) in
    subst (λ e. c.refused_if.result ≡ cause c.args.setup.now (world_in c.args.states.now) c.args.events e) (sym c.in-Recover.is)
    (grind (arith, recovers, c.refused_if.ensures, down, named))

pub later_cause-requires-clause-node : goal.later_cause-requires-clause-node
later_cause-requires-clause-node c = omega (arith, c.if-number-nodes.false, c.number.ensures.number, c.nodes.ensures.nodes, c.node-node.ensures)

pub later_cause-requires-clause-named : goal.later_cause-requires-clause-named
later_cause-requires-clause-named c =
    let node : IsNode c.args.setup.now (node_of c.args.event.now) = grind (arith, c.if-number-nodes.false, c.number.ensures.number, c.number.ensures.within, c.nodes.ensures.nodes, c.node-node.ensures) in
    let place = c.place_of.ensures ∙ c.node-node.ensures in
    node_state-place c.args.states.now c.place_of.result (node_of c.args.event.now) c.index-states-place_of.result place (place-within c.args.setup.now c.args.states.now c.place_of.result (node_of c.args.event.now) c.requires place node.1) c.index-states-place_of.is

pub returns-in_default : goal.returns-in_default
returns-in_default c =
    let room : c.args.events < c.args.setup.now.events_max = omega (arith, c.is_full_for.ensures.room c.if-is_full_for.false) in
    let node : IsNode c.args.setup.now (node_of c.args.event.now) = grind (arith, c.if-number-nodes.false, c.number.ensures.number, c.number.ensures.within, c.nodes.ensures.nodes, c.node-node.ensures) in
    let place = c.place_of.ensures ∙ c.node-node.ensures in
    let here = node_state-place c.args.states.now c.place_of.result (node_of c.args.event.now) c.index-states-place_of.result place (place-within c.args.setup.now c.args.states.now c.place_of.result (node_of c.args.event.now) c.requires place node.1) c.index-states-place_of.is in
    let down = down-test (world_in c.args.states.now) (node_of c.args.event.now) (node_state_of c.index-states-place_of.result) c.is_down-is_down.result here c.is_down-is_down.ensures.0 c.is_down-is_down.ensures.1 in
    let later = cause-later c.args.setup.now (world_in c.args.states.now) c.args.events c.args.event.now c.in_default.not-Recover room node in
    sym (rw (← down, c.if-is_down.true) at later)

pub returns-in_default-2 : goal.returns-in_default-2
returns-in_default-2 c =
    let room : c.args.events < c.args.setup.now.events_max = omega (arith, c.is_full_for.ensures.room c.if-is_full_for.false) in
    let node : IsNode c.args.setup.now (node_of c.args.event.now) = grind (arith, c.if-number-nodes.false, c.number.ensures.number, c.number.ensures.within, c.nodes.ensures.nodes, c.node-node.ensures) in
    let place = c.place_of.ensures ∙ c.node-node.ensures in
    let here = node_state-place c.args.states.now c.place_of.result (node_of c.args.event.now) c.index-states-place_of.result place (place-within c.args.setup.now c.args.states.now c.place_of.result (node_of c.args.event.now) c.requires place node.1) c.index-states-place_of.is in
    let down = down-test (world_in c.args.states.now) (node_of c.args.event.now) (node_state_of c.index-states-place_of.result) c.is_down-is_down.result here c.is_down-is_down.ensures.0 c.is_down-is_down.ensures.1 in
    let later = cause-later c.args.setup.now (world_in c.args.states.now) c.args.events c.args.event.now c.in_default.not-Recover room node in
    c.later_cause.ensures c.args.events ∙ sym (rw (← down, c.if-is_down.false) at later)
